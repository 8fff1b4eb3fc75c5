-- Who isn't held back by a quota goes past none, and what such an owner does lets nobody else off theirs.
use Rattle.std.proofs.Common.{◌≡◌, ◌≢◌, ◌≤◌, ℕ, Bool, true, false, cond, not, ◌&&◌, ◌||◌, is_some, ltb, List, [], ◌∷◌, ◌++◌, refl, sym, ap, ◌∙◌, Option, Some, None}
use Rattle.std.proofs.lemmas.Bool.{true≢false, ltb-false}
use Rattle.std.proofs.lemmas.Option.{none-some, same_Some}
use Rattle.std.proofs.lemmas.Slice.Eq.{bytes_eq-Decides}
use Rattle.definitions.specs.Bytes.{Bytes}
use Rattle.definitions.specs.Hosts.{full_quota}
use Rattle.definitions.specs.Owners.{Owner, Remote, Process, Description, host_of, is_of_host}
use Rattle.definitions.specs.Settings.{Setting, covers, mode_at}
use Rattle.definitions.specs.Starts.{is_short, refuses, used, used_of}
use Rattle.definitions.specs.Quotas.{Quotas, quota_at, is_past, is_past_own, exceeds_of, exceeds}
use Rattle.definitions.proofs.RunCounts.{as_many_of}
use Rattle.definitions.proofs.SettingLaws.{newest_wins}
use Rattle.definitions.proofs.QuotaLaws.{full_quota_law}
use Rattle.blocked_list.specs.Quotas.{is_limiting, is_limited, UnlimitedLaw}

-- a quota that isn't limiting, where there is one, is as great as the full one
full_at_least : (o : Option ℕ) (quota : ℕ) → o ≡ Some quota → is_limiting o ≡ false → full_quota ≤ quota
full_at_least None quota e f = absurd (none-some quota e)
full_at_least (Some n) quota e f = ltb-false quota full_quota (ap (λ m. ltb m full_quota) (sym (same_Some n quota e)) ∙ f)

-- such a quota holds back nothing that finds free runs
past_none : (settings : List Setting) (s : Setting) (name : Bytes) (o : Option ℕ) → host_of s.owner ≡ Some name → is_limiting o ≡ false → refuses 65536 settings s ≡ false → is_past_own settings s name o ≡ false
past_none settings s name None own free fits = refl
past_none settings s name (Some quota) own free fits = full_quota_law settings s name quota own (full_at_least (Some quota) quota refl free) fits

pub unlimited : UnlimitedLaw
unlimited quotas settings s = go (host_of s.owner) refl
  where
    go : (host : Option Bytes) → host_of s.owner ≡ host → is_limiting (quota_at quotas host) ≡ false → refuses 65536 settings s ≡ false → exceeds_of quotas settings s host ≡ false
    go None e free fits = refl
    go (Some name) e free fits = past_none settings s name (quotas name) e free fits

-- the host that an owner is of
pub host_is : (owner : Owner) (name : Bytes) → is_of_host name owner ≡ true → host_of owner ≡ Some name
host_is (Remote a) name e = ap Some ((bytes_eq-Decides a.name name).0 e)
host_is (Process p) name e = absurd (true≢false (sym e))
host_is (Description d) name e = absurd (true≢false (sym e))

pub not_short : (settings : List Setting) (s : Setting) → is_short 65536 settings ≡ false → refuses 65536 settings s ≡ false
not_short settings s e = ap (λ b. b && (is_some s.mode || ltb (used settings) (used (settings ++ s ∷ [])))) e

-- a change of one owner's modes, whom no quota holds back, leaves what goes past a quota past it
module _ (quotas : Quotas) (before after : List Setting) (x : Owner) (others : (file : Bytes) (owner : Owner) (byte : ℕ) → x ≢ owner → mode_at after file owner byte ≡ mode_at before file owner byte) (free : is_limited quotas x ≡ false) (enough : is_short 65536 before ≡ false) (s : Setting) where
  module _ (name : Bytes) (apart : is_of_host name x ≡ false) where
    differs : (owner : Owner) → is_of_host name owner ≡ true → x ≢ owner
    differs owner h e = true≢false (sym h ∙ ap (is_of_host name) (sym e) ∙ apart)

    now : used_of name after ≡ used_of name before
    now = as_many_of name before after (λ file owner byte h. others file owner byte (differs owner h))

    set : used_of name (after ++ s ∷ []) ≡ used_of name (before ++ s ∷ [])
    set =
        as_many_of name (before ++ s ∷ []) (after ++ s ∷ [])
        (λ file owner byte h. newest_wins after s file owner byte ∙ ap (cond (covers s file owner byte) s.mode) (others file owner byte (differs owner h)) ∙ sym (newest_wins before s file owner byte))

    same_past : (quota : ℕ) → is_past after s name quota ≡ is_past before s name quota
    same_past quota = ap (λ n. ltb quota n && ltb (used_of name after) n) set ∙ ap (λ m. ltb quota (used_of name (before ++ s ∷ [])) && ltb m (used_of name (before ++ s ∷ []))) now

    same_own : (o : Option ℕ) → is_past_own after s name o ≡ is_past_own before s name o
    same_own None = refl
    same_own (Some quota) = same_past quota

  pub exceeds_still : exceeds quotas before s ≡ true → exceeds quotas after s ≡ true
  exceeds_still = go (host_of s.owner) refl
    where
      own : (name : Bytes) → host_of s.owner ≡ Some name → (b : Bool) → is_of_host name x ≡ b → is_past_own before s name (quotas name) ≡ true → is_past_own after s name (quotas name) ≡ true
      own name e false h k = same_own name h (quotas name) ∙ k
      own name e true h k =
          let here : is_limiting (quotas name) ≡ false = ap (λ host. is_limiting (quota_at quotas host)) (sym (host_is x name h)) ∙ free in
          absurd (true≢false (sym k ∙ past_none before s name (quotas name) e here (not_short before s enough)))

      go : (host : Option Bytes) → host_of s.owner ≡ host → exceeds_of quotas before s host ≡ true → exceeds_of quotas after s host ≡ true
      go None e k = k
      go (Some name) e k = own name e (is_of_host name x) refl k

-- ---- a waiter's readiness, by its parts, where 2 runs are free

pub ready_if : (c s e held : Bool) → c ≡ false → s ≡ false → held ≡ e → not held ≡ (not c && not (s || e))
ready_if c s e held h k q = rw (h, k, q) refl

pub not_ready_if : (c s e : Bool) → c ≡ true → not c ≡ (not c && not (s || e))
not_ready_if c s e h = rw h refl
