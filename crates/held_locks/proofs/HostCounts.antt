-- The runs of each host are counted as its owners change.
use Rattle.std.proofs.Common.{◌≡◌, ◌≢◌, ℕ, ◌-◌, ◌&&◌, Bool, true, false, cond, refl, sym, ap, ◌∙◌, subst, List, [], ◌∷◌, ◌++◌, Option, None}
use Rattle.std.proofs.lemmas.Bool.{true≢false, and_parts}
use Rattle.std.proofs.lemmas.Slice.Eq.{bytes_eq-Decides}
use Rattle.definitions.specs.Bytes.{Bytes, same_bytes}
use Rattle.definitions.specs.Owners.{Owner, Remote, Process, Description, same_owner, is_of_host}
use Rattle.definitions.specs.Settings.{Setting, mode_at, without_host, without_owner_on}
use Rattle.definitions.specs.Starts.{used, used_of}
use Rattle.definitions.proofs.OwnerLaws.{same_owner-Decides}
use Rattle.definitions.proofs.QuotaLaws.{others_keep}
use Rattle.definitions.proofs.RunCounts.{as_many_of}
use Rattle.definitions.proofs.SettingLaws.{drop_owner, drop_host}
use Rattle.owner_ids.specs.Names.{names_of_owners, is_owned_by}
use Rattle.held_locks.specs.HostRuns.{Counted, runs_of, IsRecounted, Puts}
use Rattle.range_table.specs.Settings.{Held, IsUsed, mode_at as held_at, held_by}
use Rattle.range_table.specs.declared.run.Setting.{Setting as NumberSetting}
use Rattle.range_table.proofs.Counts.{used_once}
use Rattle.held_locks.specs.Stands.{Stands}
use Rattle.held_locks.proofs.OwnerCounting.{used_over, used_of_is, of_host}
use Rattle.held_locks.proofs.Allowances.{own_left}
use Rattle.held_locks.specs.Tied.{IsTied, IsCounted, AreHostRuns, IsCountedAnew}
use Rattle.held_locks.proofs.Ties.{tied_nothing}

-- ---- a change of one owner

module _ (before after : List Setting) (x : Owner) (alike : (file : Bytes) (owner : Owner) (byte : ℕ) → owner ≢ x → mode_at after file owner byte ≡ mode_at before file owner byte) where
  hosts_after : (old new : Counted) → AreHostRuns old before → IsRecounted x (used before) (used after) old new → AreHostRuns new after
  hosts_after old new h r whole name = r.runs whole name ∙ go (is_of_host name x) refl where
    was : runs_of old name ≡ used_of name before
    was = h (r.was whole) name

    go : (b : Bool) → is_of_host name x ≡ b → cond b (used after - (used before - runs_of old name)) (runs_of old name) ≡ used_of name after
    go true t =
        ap (λ n. used after - (used before - n)) was
        ∙ sym (own_left name before after (λ file owner byte e. alike file owner byte (λ i. true≢false (sym t ∙ ap (is_of_host name) (sym i) ∙ e))))
    go false t = was ∙ sym (as_many_of name before after (λ file owner byte e. alike file owner byte (λ i. true≢false (sym e ∙ ap (is_of_host name) i ∙ t))))

  pub hosts_changed : (ns others : List NumberSetting) (counts left : List ℕ) (names : List (Option Owner)) (old new : Counted) → IsTied ns counts names before → IsTied others left names after → AreHostRuns old before → IsCountedAnew x (held_at ns) (held_at others) old new → AreHostRuns new after
  hosts_changed ns others counts left names old new h k a r =
      let b = used_over (names_of_owners names) (held_at ns) before r.before h.stands r.were in
      let l = used_over (names_of_owners names) (held_at others) after r.left k.stands r.are in
      hosts_after old new a (subst (λ n. IsRecounted x n (used after) old new) b (subst (λ n. IsRecounted x r.before n old new) l r.counted))

pub counted_anew : (x : Owner) (held after : Held) (old new : Counted) (before left : ℕ) → IsUsed held before → IsUsed after left → IsRecounted x before left old new → IsCountedAnew x held after old new
counted_anew x held after old new before left were are counted = record { before = before; left = left; were = were; are = are; counted = counted }

pub set_alike : (settings : List Setting) (s : Setting) (file : Bytes) (owner : Owner) (byte : ℕ) → owner ≢ s.owner → mode_at (settings ++ s ∷ []) file owner byte ≡ mode_at settings file owner byte
set_alike settings s file owner byte o = others_keep settings s file owner byte (λ k. o (sym k))

pub drop_alike : (on : Bytes) (x : Owner) (settings : List Setting) (file : Bytes) (owner : Owner) (byte : ℕ) → owner ≢ x → mode_at (without_owner_on on x settings) file owner byte ≡ mode_at settings file owner byte
drop_alike on x settings file owner byte o = drop_owner on x settings file owner byte ∙ go (same_bytes file on && same_owner owner x) refl where
  go : (b : Bool) → (same_bytes file on && same_owner owner x) ≡ b → cond b None (mode_at settings file owner byte) ≡ mode_at settings file owner byte
  go true e = absurd (o ((same_owner-Decides owner x).0 (and_parts (same_bytes file on) (same_owner owner x) e).1))
  go false e = refl

-- ---- settings for which one table stands have as many runs of each host

pub hosts_kept : (ns : List NumberSetting) (names : List (Option Owner)) (before after : List Setting) (hosts : Counted) → Stands (names_of_owners names) (held_at ns) before → Stands (names_of_owners names) (held_at ns) after → AreHostRuns hosts before → AreHostRuns hosts after
hosts_kept ns names before after hosts h k a whole name =
    let has = is_owned_by (names_of_owners names) name in
    let of = of_host (names_of_owners names) name in
    a whole name
    ∙ used_once (held_by has (held_at ns)) (used_of name before) (used_of name after) (used_of_is (names_of_owners names) (held_at ns) before has name h of) (used_of_is (names_of_owners names) (held_at ns) after has name k of)

-- ---- a host goes

host_once : (name other : Bytes) (x : Owner) → is_of_host name x ≡ true → is_of_host other x ≡ true → name ≡ other
host_once name other (Remote a) e f = sym ((bytes_eq-Decides a.name name).0 e) ∙ (bytes_eq-Decides a.name other).0 f
host_once name other (Process p) e f = absurd (true≢false (sym e))
host_once name other (Description d) e f = absurd (true≢false (sym e))

pub hosts_without : (name : Bytes) (settings : List Setting) (old new : Counted) → AreHostRuns old settings → Puts name 0 old new → AreHostRuns new (without_host name settings)
hosts_without name settings old new h p whole other = p.runs whole other ∙ go (same_bytes name other) refl where
  left : List Setting
  left = without_host name settings

  dropped : (file : Bytes) (owner : Owner) (byte : ℕ) (b : Bool) → is_of_host name owner ≡ b → mode_at left file owner byte ≡ cond b None (mode_at settings file owner byte)
  dropped file owner byte b e = drop_host name settings file owner byte ∙ ap (λ c. cond c None (mode_at settings file owner byte)) e

  no : (owner : Owner) → same_bytes name other ≡ false → is_of_host other owner ≡ true → (b : Bool) → is_of_host name owner ≡ b → b ≡ false
  no owner d e true f = absurd (true≢false (sym ((bytes_eq-Decides name other).1 (host_once name other owner f e)) ∙ d))
  no owner d e false f = refl

  go : (b : Bool) → same_bytes name other ≡ b → cond b 0 (runs_of old other) ≡ used_of other left
  go true e =
      let i = (bytes_eq-Decides name other).0 e in
      subst (λ q. 0 ≡ used_of q left) i (sym (as_many_of name [] left (λ file owner byte t. dropped file owner byte true t)))
  go false e =
      h (p.was whole) other
      ∙ sym (as_many_of other settings left (λ file owner byte t. dropped file owner byte false (no owner e t (is_of_host name owner) refl)))

-- ---- nothing is held

pub counted_nothing : (hosts : Counted) → ((name : Bytes) → runs_of hosts name ≡ 0) → IsCounted [] [] hosts [] []
counted_nothing hosts none = record { tied = tied_nothing; by_host = λ whole name. none name }
