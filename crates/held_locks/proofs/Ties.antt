-- What keeps a table, its counts and its names tied to the settings of owners.
use Rattle.std.proofs.Common.{◌≡◌, ◌≢◌, ◌≤◌, ◌<◌, ◌==◌, ◌+◌, ◌-◌, ℕ, not, ◌&&◌, Bool, false, cond, refl, sym, ap, ◌∙◌, subst, arith, ltb, List, [], ◌∷◌, ◌++◌, filter, length, slice_index_or, slice_set, Option, Some, None, inl, inr, ◌⊎◌, is_some, ◌||◌}
use Rattle.std.proofs.lemmas.Bool.{le-ltb, and_right, and_parts}
use Rattle.std.proofs.Math.ListN.{get_or-eq_default}
use Rattle.std.proofs.lemmas.List.{get_or-set_same, get_or-set_other}
use Rattle.definitions.specs.Bytes.{Bytes, same_bytes}
use Rattle.definitions.specs.Owners.{Owner, same_owner}
use Rattle.definitions.specs.Settings.{Setting, mode_at as owner_mode_at, covers, without_owner_on, without_host}
use Rattle.definitions.specs.Starts.{used, is_short, refuses}
use Rattle.definitions.proofs.SettingLaws.{newest_wins, drop_owner}
use Rattle.definitions.proofs.OwnerLaws.{same_owner-Decides}
use Rattle.definitions.proofs.ReclaimLaws.{covered}
use Rattle.owner_ids.specs.Names.{Names, Renames, IsNumberFor, names_of_owners, is_owned_by}
use Rattle.range_table.specs.File.{File, same_file}
use Rattle.range_table.specs.Settings.{Held, mode_at, held_by, IsUsed, covers as covers_number, is_by}
use Rattle.range_table.specs.declared.run.Setting.{Setting as NumberSetting}
use Rattle.range_table.specs.declared.run.Mode.{Mode as NumberMode}
use Rattle.range_table.proofs.Tests.{by_test}
use Rattle.range_table.proofs.Tables.{mode_at-append, mode_at-filter}
use Rattle.range_table.proofs.Counts.{used_once, IsUsed-same}
use Rattle.range_table.proofs.Splitting.{part_used, used_parts}
use Rattle.held_locks.specs.Stands.{Stands}
use Rattle.held_locks.proofs.Words.{number_same, number_other, number_is, covers_owner, none_or}
use Rattle.held_locks.proofs.Keeping.{cleared, stands_after, released, had_or_interned, stands_without_owner, stands_without_host}
use Rattle.held_locks.specs.Same.{IsSameSetting}
use Rattle.range_table.specs.Modes.{view_of_held_mode}
use Rattle.owner_ids.specs.Views.{view_of_owner}
use Rattle.held_locks.specs.declared.asked.NewSetting.{NewSetting}
use Rattle.held_locks.specs.Asked.{view_of_new_setting, new_setting_by_number}
use Rattle.held_locks.proofs.OwnerCounting.{used_is, of_host}
use Rattle.held_locks.proofs.Released.{nothing_used, release_test}
use Rattle.held_locks.specs.Tied.{IsTied, AreCounts, Spares, WereCounted}

nothing_at : {X : Type 0} (d : X) (n : ℕ) → slice_index_or [] n d ≡ d
nothing_at d n = get_or-eq_default [] d {n = n} (omega arith)

nobody : (n : ℕ) (x : Owner) → names_of_owners [] n ≡ Some x → ⊥
nobody n x e = let p : None ≡ Some x = sym (nothing_at None n) ∙ e in cc

no_count : (n : ℕ) → ◌≡◌ {A = ℕ} (slice_index_or [] n 0) 0
no_count n = nothing_at 0 n

pub tied_nothing : IsTied [] [] [] []
tied_nothing = record {
  stands = cleared (names_of_owners []) (record { once = λ n k x e f. absurd (nobody n x e) });
  counted = λ n. subst (IsUsed (held_by (λ k. k == n) (mode_at []))) (sym (no_count n)) (nothing_used (λ k. k == n) (mode_at []) (λ file k byte. by_test (k == n) (λ t. rw t refl) (λ t. rw t refl)));
  within = λ n x e. absurd (nobody n x e);
  few = omega arith;
}

-- ---- counts

module _ (held after : Held) (n all left one : ℕ) (spares : Spares n held after) (u : IsUsed held all) (v : IsUsed after left) (c : IsUsed (held_by (λ k. k == n) held) one) where
  abbrev rest : ℕ
  rest = length (filter (λ x. not (x.owner == n)) u.starts)

  rest_used : IsUsed (held_by (λ k. not (k == n)) held) rest
  rest_used = part_used (λ k. not (k == n)) held all u

  rest_after : IsUsed (held_by (λ k. not (k == n)) after) rest
  rest_after =
      IsUsed-same (held_by (λ k. not (k == n)) held) (held_by (λ k. not (k == n)) after) rest
      (λ file k byte. by_test (k == n) (λ t. rw t refl) (λ t. rw t (sym (spares file k byte t)))) rest_used

  abbrev now : ℕ
  now = length (filter (λ x. x.owner == n) v.starts)

  now_used : IsUsed (held_by (λ k. k == n) after) now
  now_used = part_used (λ k. k == n) after left v

  was_parts : all ≡ one + rest
  was_parts = used_parts held n all one rest u c rest_used

  is_parts : left ≡ now + rest
  is_parts = used_parts after n left now rest v now_used rest_after

  pub part_of_all : one ≤ all
  part_of_all = omega (arith, was_parts)

  pub rest_of_left : all - one ≤ left
  rest_of_left = omega (arith, was_parts, is_parts)

  pub recounted : IsUsed (held_by (λ k. k == n) after) (left - (all - one))
  recounted = subst (IsUsed (held_by (λ k. k == n) after)) (let p : now ≡ left - (all - one) = omega (arith, was_parts, is_parts) in p) now_used

-- the count of the number is set, the others stay
module _ (ns others : List NumberSetting) (counts : List ℕ) (n all left : ℕ) (spares : Spares n (mode_at ns) (mode_at others)) (u : IsUsed (mode_at ns) all) (v : IsUsed (mode_at others) left) (c : AreCounts ns counts) (place : n < length counts) where
  abbrev one : ℕ
  one = slice_index_or counts n 0

  pub counts_after : AreCounts others (slice_set counts n (left - (all - one)))
  counts_after k =
      by_test (k == n)
      (λ t.
      let i = number_is k n t in
      subst (λ z. IsUsed (held_by (λ j. j == z) (mode_at others)) (slice_index_or (slice_set counts n (left - (all - one))) z 0)) (sym i)
      (subst (IsUsed (held_by (λ j. j == n) (mode_at others))) (sym (get_or-set_same counts n (left - (all - one)) 0 place)) (recounted (mode_at ns) (mode_at others) n all left one spares u v (c n))))
      (λ t.
      subst (IsUsed (held_by (λ j. j == k) (mode_at others))) (sym (get_or-set_other counts n k (left - (all - one)) 0 (number_other k n t)))
      (IsUsed-same (held_by (λ j. j == k) (mode_at ns)) (held_by (λ j. j == k) (mode_at others)) (slice_index_or counts k 0)
      (λ file j byte. by_test (j == k) (λ q. rw q (sym (spares file j byte (ap (λ z. z == n) (number_is j k q) ∙ t)))) (λ q. rw q refl)) (c k)))

-- where one number alone has changed
module _ (n : ℕ) (counts : List ℕ) (all left : ℕ) (others : List NumberSetting) (w : WereCounted n counts all others) (v : IsUsed (mode_at others) left) where
  pub part_counted : slice_index_or counts n 0 ≤ all
  part_counted = part_of_all (mode_at w.before) (mode_at others) n all left (slice_index_or counts n 0) w.spares w.used v (w.counted n)

  pub rest_counted : all - slice_index_or counts n 0 ≤ left
  rest_counted = rest_of_left (mode_at w.before) (mode_at others) n all left (slice_index_or counts n 0) w.spares w.used v (w.counted n)

  pub counts_recounted : n < length counts → AreCounts others (slice_set counts n (left - (all - slice_index_or counts n 0)))
  counts_recounted place = counts_after w.before others counts n all left w.spares w.used v w.counted place

-- a setting of a number spares the others
pub set_spares : (ns left : List NumberSetting) (s : NumberSetting) → left ≡ ns ++ s ∷ [] → Spares s.owner (mode_at ns) (mode_at left)
set_spares ns left s e file k byte o =
    ap (λ l. mode_at l file k byte) e
    ∙ mode_at-append ns s file k byte
    ∙ by_test (covers_number s file k byte) (λ t. let i = covers_owner s file k byte t in absurd (number_other k s.owner o (sym i))) (λ t. rw t refl)

-- and so does a drop of a number on a file
pub drop_spares : (ns left : List NumberSetting) (on : File) (n : ℕ) → left ≡ filter (λ s. not (is_by on n s)) ns → Spares n (mode_at ns) (mode_at left)
drop_spares ns left on n e file k byte o =
    ap (λ l. mode_at l file k byte) e
    ∙ mode_at-filter (λ file j. same_file file on && (j == n)) ns file k byte ∙ ap (λ b. cond b None (mode_at ns file k byte)) (and_right (same_file file on) (k == n) o)

-- ---- an owner without a number

module _ (names : Names) (held : Held) (settings : List Setting) (h : Stands names held settings) (x : Owner) (fresh : (k : ℕ) → names k ≢ Some x) where
  pub stranger_holds_nothing : (file : Bytes) (byte : ℕ) → owner_mode_at settings file x byte ≡ None
  stranger_holds_nothing file byte = none_or (owner_mode_at settings file x byte) (λ m. let j = h.numbered x file byte m in fresh j.0 j.1)

  module _ (t : Setting) (own : t.owner ≡ x) (none : t.mode ≡ None) where
    same_modes : (file : Bytes) (y : Owner) (byte : ℕ) → owner_mode_at (settings ++ t ∷ []) file y byte ≡ owner_mode_at settings file y byte
    same_modes file y byte =
        newest_wins settings t file y byte
        ∙ by_test (covers t file y byte)
        (λ c. let o : x ≡ y = sym own ∙ (covered t file y byte c).1 in rw (c, none) (sym (subst (λ z. owner_mode_at settings file z byte ≡ None) o (stranger_holds_nothing file byte))))
        (λ c. rw c refl)

    pub stranger_unlocks : Stands names held (settings ++ t ∷ [])
    stranger_unlocks = record {
      distinct = h.distinct;
      used = λ n y e file byte. h.used n y e file byte ∙ sym (same_modes file y byte);
      unused = h.unused;
      numbered = λ y file byte m. h.numbered y file byte (λ e. m (same_modes file y byte ∙ e));
    }

    pub stranger_is_not_refused : refuses 65536 settings t ≡ false
    stranger_is_not_refused =
        let same : used settings ≡ used (settings ++ t ∷ []) = used_once held (used settings) (used (settings ++ t ∷ [])) (used_is names held settings h) (used_is names held (settings ++ t ∷ []) stranger_unlocks) in
        and_right (is_short 65536 settings) (is_some t.mode || ltb (used settings) (used (settings ++ t ∷ []))) (ap (λ m. is_some m || ltb (used settings) (used (settings ++ t ∷ []))) none ∙ le-ltb (used settings) (used (settings ++ t ∷ [])) (omega (arith, same)))

-- ---- what keeps the tie

pub same_new_setting : (names : List (Option Owner)) (n : ℕ) (c : NewSetting) → names_of_owners names n ≡ Some (view_of_owner c.owner.now) → IsSameSetting (names_of_owners names) (new_setting_by_number n c) (view_of_new_setting c)
same_new_setting names n c e = record { file = refl; owner = e; first = refl; last = refl; mode = refl }

-- a setting of an owner who has a number
pub tied_set : (ns others : List NumberSetting) (counts after : List ℕ) (names : List (Option Owner)) (settings : List Setting) (n : ℕ) (c : NewSetting) → IsTied ns counts names settings → names_of_owners names n ≡ Some (view_of_owner c.owner.now) → others ≡ ns ++ new_setting_by_number n c ∷ [] → AreCounts others after → length after ≡ length counts → IsTied others after names (settings ++ view_of_new_setting c ∷ [])
tied_set ns others counts after names settings n c h e o counted places = record {
  stands = subst (λ l. Stands (names_of_owners names) (mode_at l) (settings ++ view_of_new_setting c ∷ [])) (sym o) (stands_after (names_of_owners names) ns settings (new_setting_by_number n c) (view_of_new_setting c) h.stands (same_new_setting names n c e));
  counted = counted;
  within = λ k x f. subst (λ l. k < l) (sym places) (h.within k x f);
  few = subst (λ l. l ≤ 4294967296) (sym places) h.few;
}

-- an unlock by an owner who has none
pub tied_stranger : (ns : List NumberSetting) (counts : List ℕ) (names : List (Option Owner)) (settings : List Setting) (c : NewSetting) → IsTied ns counts names settings → ((k : ℕ) → names_of_owners names k ≢ Some (view_of_owner c.owner.now)) → c.mode ≡ None → IsTied ns counts names (settings ++ view_of_new_setting c ∷ [])
tied_stranger ns counts names settings c h fresh none = record {
  stands = stranger_unlocks (names_of_owners names) (mode_at ns) settings h.stands (view_of_owner c.owner.now) fresh (view_of_new_setting c) refl (ap view_of_held_mode none);
  counted = h.counted;
  within = h.within;
  few = h.few;
}

-- who locks is known, so a stranger unlocks
pub stranger_mode : (names : List (Option Owner)) (c : NewSetting) → ((c.mode ≡ None) ⊎ ((n : ℕ) × (names_of_owners names n ≡ Some (view_of_owner c.owner.now)))) → ((k : ℕ) → names_of_owners names k ≢ Some (view_of_owner c.owner.now)) → c.mode ≡ None
stranger_mode names c (inl e) fresh = e
stranger_mode names c (inr k) fresh = absurd (fresh k.0 k.1)

-- ---- owners that hold nothing

none_held : (m : Option NumberMode) → view_of_held_mode m ≡ None → m ≡ None
none_held None e = refl
none_held (Some m) e = cc

pub number_holds_nothing : (ns : List NumberSetting) (counts : List ℕ) (names : List (Option Owner)) (settings : List Setting) (n : ℕ) (x : Owner) → IsTied ns counts names settings → names_of_owners names n ≡ Some x → ((file : Bytes) (byte : ℕ) → owner_mode_at settings file x byte ≡ None) → (file : File) (byte : ℕ) → mode_at ns file n byte ≡ None
number_holds_nothing ns counts names settings n x h e nothing file byte = none_held (mode_at ns file n byte) (h.stands.used n x e file byte ∙ nothing file byte)

-- the count of an owner's number is 0 exactly where it holds nothing
pub nothing_counted : (ns : List NumberSetting) (counts : List ℕ) (names : List (Option Owner)) (settings : List Setting) (n : ℕ) (x : Owner) → IsTied ns counts names settings → names_of_owners names n ≡ Some x → ((file : Bytes) (byte : ℕ) → owner_mode_at settings file x byte ≡ None) → slice_index_or counts n 0 ≡ 0
nothing_counted ns counts names settings n x h e nothing =
    used_once (held_by (λ k. k == n) (mode_at ns)) (slice_index_or counts n 0) 0 (h.counted n)
    (nothing_used (λ k. k == n) (mode_at ns) (λ file k byte. by_test (k == n)
    (λ t. rw t (ap (λ z. mode_at ns file z byte) (number_is k n t) ∙ number_holds_nothing ns counts names settings n x h e nothing file byte))
    (λ t. rw t refl)))

pub number_idle : (ns : List NumberSetting) (counts : List ℕ) (names : List (Option Owner)) (settings : List Setting) (n : ℕ) → IsTied ns counts names settings → slice_index_or counts n 0 ≡ 0 → (file : File) (byte : ℕ) → mode_at ns file n byte ≡ None
number_idle ns counts names settings n h e = release_test (λ k. k == n) (mode_at ns) n (number_same n n refl) (subst (IsUsed (held_by (λ k. k == n) (mode_at ns))) e (h.counted n))

pub owner_idle : (ns : List NumberSetting) (counts : List ℕ) (names : List (Option Owner)) (settings : List Setting) (n : ℕ) (x : Owner) → IsTied ns counts names settings → names_of_owners names n ≡ Some x → slice_index_or counts n 0 ≡ 0 → (file : Bytes) (byte : ℕ) → owner_mode_at settings file x byte ≡ None
owner_idle ns counts names settings n x h e z file byte = sym (h.stands.used n x e file byte) ∙ ap view_of_held_mode (number_idle ns counts names settings n h z file byte)

-- names of numbers that hold nothing may go
pub stands_fewer : (names after : Names) (held : Held) (settings : List Setting) → Stands names held settings → ((n : ℕ) → (after n ≡ names n) ⊎ ((after n ≡ None) × ((file : File) (byte : ℕ) → held file n byte ≡ None))) → Stands after held settings
stands_fewer names after held settings h goes = record {
  distinct = record { once = λ n k x e f. h.distinct.once n k x (stays n x e) (stays k x f) };
  used = λ n x e file byte. h.used n x (stays n x e) file byte;
  unused = λ n e file byte. unused n (goes n) e file byte;
  numbered = λ x file byte m. let j = h.numbered x file byte m in (j.0, here j.0 x j.1 file byte m (goes j.0));
} where
  stays : (n : ℕ) (x : Owner) → after n ≡ Some x → names n ≡ Some x
  stays n x e = go (goes n) where
    go : (after n ≡ names n) ⊎ ((after n ≡ None) × ((file : File) (byte : ℕ) → held file n byte ≡ None)) → names n ≡ Some x
    go (inl s) = sym s ∙ e
    go (inr g) = let p : None ≡ Some x = sym g.0 ∙ e in cc

  unused : (n : ℕ) → (after n ≡ names n) ⊎ ((after n ≡ None) × ((file : File) (byte : ℕ) → held file n byte ≡ None)) → after n ≡ None → (file : File) (byte : ℕ) → held file n byte ≡ None
  unused n (inl s) e file byte = h.unused n (sym s ∙ e) file byte
  unused n (inr g) e file byte = g.1 file byte

  here : (n : ℕ) (x : Owner) → names n ≡ Some x → (file : Bytes) (byte : ℕ) → owner_mode_at settings file x byte ≢ None → (after n ≡ names n) ⊎ ((after n ≡ None) × ((file : File) (byte : ℕ) → held file n byte ≡ None)) → after n ≡ Some x
  here n x e file byte m (inl s) = s ∙ e
  here n x e file byte m (inr g) = absurd (m (sym (h.used n x e file byte) ∙ ap view_of_held_mode (g.1 file byte)))

pub tied_released : (ns : List NumberSetting) (counts : List ℕ) (names after : List (Option Owner)) (settings : List Setting) (n : ℕ) → IsTied ns counts names settings → ((file : File) (byte : ℕ) → mode_at ns file n byte ≡ None) → Renames (names_of_owners names) (names_of_owners after) n None → IsTied ns counts after settings
tied_released ns counts names after settings n h idle r = record {
  stands = released (names_of_owners names) (names_of_owners after) (mode_at ns) settings n h.stands idle r;
  counted = h.counted;
  within = λ k x e. by_test (k == n)
      (λ t. let p : None ≡ Some x = sym r.there ∙ ap (names_of_owners after) (sym (number_is k n t)) ∙ e in cc)
      (λ t. h.within k x (sym (r.others k (number_other k n t)) ∙ e));
  few = h.few;
}

-- ---- numbers that come into use

-- the counts of the same numbers, with more room
pub tied_counts : (ns : List NumberSetting) (counts more : List ℕ) (names : List (Option Owner)) (settings : List Setting) → IsTied ns counts names settings → ((n : ℕ) → slice_index_or more n 0 ≡ slice_index_or counts n 0) → length counts ≤ length more → length more ≤ 4294967296 → IsTied ns more names settings
tied_counts ns counts more names settings h same longer few = record {
  stands = h.stands;
  counted = λ n. subst (IsUsed (held_by (λ k. k == n) (mode_at ns))) (sym (same n)) (h.counted n);
  within = λ n x e. let w = h.within n x e in omega (arith, w, longer);
  few = few;
}

module _ (ns : List NumberSetting) (counts : List ℕ) (names mid : List (Option Owner)) (settings : List Setting) (n : ℕ) (x : Owner) (h : IsTied ns counts names settings) (was : IsNumberFor (names_of_owners names) n x) (r : Renames (names_of_owners names) (names_of_owners mid) n (Some x)) where
  pub tied_admitted : n < length counts → IsTied ns counts mid settings
  tied_admitted place = record {
    stands = had_or_interned (names_of_owners names) (names_of_owners mid) (mode_at ns) settings n x h.stands was r;
    counted = h.counted;
    within = λ k y e. by_test (k == n) (λ t. subst (λ z. z < length counts) (sym (number_is k n t)) place) (λ t. h.within k y (sym (r.others k (number_other k n t)) ∙ e));
    few = h.few;
  }

  -- a number without a place was new, so giving it back leaves each name as it was
  module _ (after : List (Option Owner)) (back : Renames (names_of_owners mid) (names_of_owners after) n None) (past : length counts ≤ n) where
    was_free : IsNumberFor (names_of_owners names) n x → names_of_owners names n ≡ None
    was_free (inl e) = let w = h.within n x e in absurd (omega (arith, w, past))
    was_free (inr e) = e.0

    pub given_back : (k : ℕ) → names_of_owners after k ≡ names_of_owners names k
    given_back k = by_test (k == n)
        (λ t. let i = number_is k n t in ap (names_of_owners after) i ∙ back.there ∙ sym (was_free was) ∙ ap (names_of_owners names) (sym i))
        (λ t. let o = number_other k n t in back.others k o ∙ r.others k o)

    pub tied_back : IsTied ns counts after settings
    tied_back = record {
      stands = stands_fewer (names_of_owners names) (names_of_owners after) (mode_at ns) settings h.stands (λ k. inl (given_back k));
      counted = h.counted;
      within = λ k y e. h.within k y (sym (given_back k) ∙ e);
      few = h.few;
    }

-- ---- a drop of an owner on a file

pub tied_dropped : (ns others : List NumberSetting) (counts after : List ℕ) (names : List (Option Owner)) (settings : List Setting) (n : ℕ) (x : Owner) (on : Bytes) → IsTied ns counts names settings → names_of_owners names n ≡ Some x → others ≡ filter (λ s. not (is_by on n s)) ns → AreCounts others after → length after ≡ length counts → IsTied others after names (without_owner_on on x settings)
tied_dropped ns others counts after names settings n x on h e o counted places = record {
  stands = subst (λ l. Stands (names_of_owners names) (mode_at l) (without_owner_on on x settings)) (sym o) (stands_without_owner (names_of_owners names) ns settings on n x h.stands e);
  counted = counted;
  within = λ k y f. subst (λ l. k < l) (sym places) (h.within k y f);
  few = subst (λ l. l ≤ 4294967296) (sym places) h.few;
}

-- of an owner without a number nothing is taken out
pub tied_undropped : (ns : List NumberSetting) (counts : List ℕ) (names : List (Option Owner)) (settings : List Setting) (x : Owner) (on : Bytes) → IsTied ns counts names settings → ((k : ℕ) → names_of_owners names k ≢ Some x) → IsTied ns counts names (without_owner_on on x settings)
tied_undropped ns counts names settings x on h fresh = record {
  stands = record {
    distinct = h.stands.distinct;
    used = λ n y e file byte. h.stands.used n y e file byte ∙ sym (same file y byte);
    unused = h.stands.unused;
    numbered = λ y file byte m. h.stands.numbered y file byte (λ e. m (same file y byte ∙ e));
  };
  counted = h.counted;
  within = h.within;
  few = h.few;
} where
  same : (file : Bytes) (y : Owner) (byte : ℕ) → owner_mode_at (without_owner_on on x settings) file y byte ≡ owner_mode_at settings file y byte
  same file y byte =
      drop_owner on x settings file y byte
      ∙ by_test (same_bytes file on && same_owner y x)
      (λ t. let i : y ≡ x = (same_owner-Decides y x).0 (and_parts (same_bytes file on) (same_owner y x) t).1 in rw t (sym (subst (λ z. owner_mode_at settings file z byte ≡ None) (sym i) (stranger_holds_nothing (names_of_owners names) (mode_at ns) settings h.stands x fresh file byte))))
      (λ t. rw t refl)

-- ---- a drop of a host

module _ (ns others : List NumberSetting) (counts after : List ℕ) (names left : List (Option Owner)) (settings : List Setting) (name : Bytes) (h : IsTied ns counts names settings) (o : others ≡ filter (λ s. not (is_owned_by (names_of_owners names) name s.owner)) ns) (cleared_counts : (n : ℕ) → slice_index_or after n 0 ≡ cond (is_owned_by (names_of_owners names) name n) 0 (slice_index_or counts n 0)) (places : length after ≡ length counts) (gone : (n : ℕ) → names_of_owners left n ≡ cond (is_owned_by (names_of_owners names) name n) None (names_of_owners names n)) where
  abbrev has : ℕ → Bool
  has = is_owned_by (names_of_owners names) name

  others_hold : (file : File) (n byte : ℕ) → mode_at others file n byte ≡ cond (has n) None (mode_at ns file n byte)
  others_hold file n byte = ap (λ l. mode_at l file n byte) o ∙ mode_at-filter (λ file k. has k) ns file n byte

  host_stands : Stands (names_of_owners left) (mode_at others) (without_host name settings)
  host_stands =
      stands_fewer (names_of_owners names) (names_of_owners left) (mode_at others) (without_host name settings)
      (subst (λ l. Stands (names_of_owners names) (mode_at l) (without_host name settings)) (sym o) (stands_without_host (names_of_owners names) ns settings has name h.stands (of_host (names_of_owners names) name)))
      (λ n. by_test (has n)
      (λ t. inr (gone n ∙ ap (λ b. cond b None (names_of_owners names n)) t, λ file byte. others_hold file n byte ∙ ap (λ b. cond b None (mode_at ns file n byte)) t))
      (λ t. inl (gone n ∙ ap (λ b. cond b None (names_of_owners names n)) t)))

  host_counted : AreCounts others after
  host_counted n = by_test (has n)
      (λ t.
      subst (IsUsed (held_by (λ k. k == n) (mode_at others))) (sym (cleared_counts n ∙ ap (λ b. cond b 0 (slice_index_or counts n 0)) t))
      (nothing_used (λ k. k == n) (mode_at others) (λ file k byte. by_test (k == n)
      (λ q. rw q (others_hold file k byte ∙ ap (λ b. cond b None (mode_at ns file k byte)) (ap has (number_is k n q) ∙ t)))
      (λ q. rw q refl))))
      (λ t.
      subst (IsUsed (held_by (λ k. k == n) (mode_at others))) (sym (cleared_counts n ∙ ap (λ b. cond b 0 (slice_index_or counts n 0)) t))
      (IsUsed-same (held_by (λ k. k == n) (mode_at ns)) (held_by (λ k. k == n) (mode_at others)) (slice_index_or counts n 0)
      (λ file k byte. by_test (k == n)
      (λ q. rw q (sym (others_hold file k byte ∙ ap (λ b. cond b None (mode_at ns file k byte)) (ap has (number_is k n q) ∙ t))))
      (λ q. rw q refl)) (h.counted n)))

  host_within : (n : ℕ) (x : Owner) → names_of_owners left n ≡ Some x → n < length after
  host_within n x e = by_test (has n)
      (λ t. let p : None ≡ Some x = sym (gone n ∙ ap (λ b. cond b None (names_of_owners names n)) t) ∙ e in cc)
      (λ t. subst (λ l. n < l) (sym places) (h.within n x (sym (gone n ∙ ap (λ b. cond b None (names_of_owners names n)) t) ∙ e)))

  pub tied_without_host : IsTied others after left (without_host name settings)
  tied_without_host = record { stands = host_stands; counted = host_counted; within = host_within; few = subst (λ l. l ≤ 4294967296) (sym places) h.few }
