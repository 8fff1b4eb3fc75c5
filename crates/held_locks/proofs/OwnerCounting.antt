-- Starts by number are the starts by owner, and so are their numbers.
use Rattle.std.proofs.Common.{◌≡◌, ℕ, suc, ◌+◌, ◌-◌, Bool, true, false, ◌&&◌, ◌||◌, ltb, List, [], ◌∷◌, ◌++◌, length, filter, refl, sym, ap, ◌∙◌, subst, inl, inr, Option, Some, None, IsNone, is_some, arith}
use Rattle.std.proofs.lemmas.Bool.{true≢false, and_parts, and_from, or_cases, ltb-true, lt-ltb, or_left, or_right}
use Rattle.std.proofs.lemmas.Bool.Decides.{same_from_decides, nat_tests}
use Rattle.std.proofs.lemmas.Cmp.{tied_itself}
use Rattle.std.specs.Bool.{Decides}
use Rattle.std.specs.Cmp.{both_ways}
use Rattle.std.specs.List.{IsDistinct, AllByRecursion}
use Rattle.std.specs.Set.{is_member}
use Rattle.std.specs.Ordering.{is_lt}
use Rattle.std.specs.declared.cmp.Ordering.TheVariants.{Less}
use Rattle.std.proofs.lemmas.Option.{same_Some}
use Rattle.definitions.specs.Bytes.{Bytes, Holds, IsBelowAll, IsAscending}
use Rattle.definitions.specs.Owners.{Owner, is_of_host}
use Rattle.definitions.specs.Settings.{Mode, Setting}
use Rattle.definitions.specs.Starts.{Start, start_cmp, same_mode, is_start, starts, used, used_of, refuses}
use Rattle.definitions.specs.Starts.{ends}
use Rattle.definitions.specs.Bytes.{in_order}
use Rattle.definitions.proofs.Orders.{filter_holds, holds_filter, filter_ascends}
use Rattle.definitions.proofs.StartLaws.{start_total, start_fact, starts_law, end_at}
use Rattle.range_table.specs.Settings.{Held, mode_at as held_at, held_by, held_after, same_held, same_start, IsUsed, IsRefused, Start as NumberStart, is_start as is_number_start}
use Rattle.range_table.specs.declared.run.Mode.{Mode as NumberMode}
use Rattle.range_table.specs.declared.run.Mode.TheVariants.{Shared as NumberShared, Exclusive as NumberExclusive}
use Rattle.range_table.specs.declared.run.Setting.{Setting as NumberSetting}
use Rattle.range_table.proofs.Files.{file_tests}
use Rattle.range_table.proofs.Tests.{by_test}
use Rattle.range_table.proofs.Counts.{used_once}
use Rattle.owner_ids.specs.Names.{Names, AreDistinct, is_owned_by, is_some_of_host}
use Rattle.held_locks.specs.Same.{IsSameSetting, AreOfHost}
use Rattle.range_table.specs.Modes.{view_of_held_mode}
use Rattle.held_locks.specs.Stands.{Stands, UsedLaw, UsedOfLaw, UsedAfterLaw, RefusalLaw}
use Rattle.held_locks.proofs.Words.{some_none}
use Rattle.held_locks.proofs.Keeping.{stands_set}

abbrev pub start_by : Owner → NumberStart → Start
start_by x s = record { file = s.file; owner = x; byte = s.byte }

abbrev pub start_of_number : ℕ → Start → NumberStart
start_of_number n t = record { file = t.file; owner = n; byte = t.byte }

pub some_held : (m : Option NumberMode) → is_some (view_of_held_mode m) ≡ is_some m
some_held None = refl
some_held (Some m) = refl

pub modes_same : (a b : Option NumberMode) → same_mode (view_of_held_mode a) (view_of_held_mode b) ≡ same_held b a
modes_same None None = refl
modes_same None (Some NumberShared) = refl
modes_same None (Some NumberExclusive) = refl
modes_same (Some NumberShared) None = refl
modes_same (Some NumberExclusive) None = refl
modes_same (Some NumberShared) (Some NumberShared) = refl
modes_same (Some NumberShared) (Some NumberExclusive) = refl
modes_same (Some NumberExclusive) (Some NumberShared) = refl
modes_same (Some NumberExclusive) (Some NumberExclusive) = refl

pub held_once : (a b : Option NumberMode) → view_of_held_mode a ≡ view_of_held_mode b → a ≡ b
held_once None None e = refl
held_once None (Some m) e = absurd (cc)
held_once (Some m) None e = absurd (cc)
held_once (Some NumberShared) (Some NumberShared) e = refl
held_once (Some NumberShared) (Some NumberExclusive) e = absurd (cc)
held_once (Some NumberExclusive) (Some NumberShared) e = absurd (cc)
held_once (Some NumberExclusive) (Some NumberExclusive) e = refl

module _ (names : Names) (held : Held) (settings : List Setting) (h : Stands names held settings) where
  pub starts_same : (s : NumberStart) (x : Owner) → names s.owner ≡ Some x → is_number_start held s ≡ is_start settings (start_by x s)
  starts_same s x e =
      rw (← h.used s.owner x e s.file s.byte, ← h.used s.owner x e s.file (s.byte - 1), some_held (held s.file s.owner s.byte), modes_same (held s.file s.owner s.byte) (held s.file s.owner (s.byte - 1))) refl

  pub no_start : (s : NumberStart) → names s.owner ≡ None → is_number_start held s ≡ false
  no_start s e = rw (h.unused s.owner e s.file s.byte) refl

pub starts_hold : (settings : List Setting) (t : Start) → Decides (is_start settings t) (Holds (starts settings) t)
starts_hold settings t = (
  λ e. (starts_law.exactly settings t).1 (start_fact settings t e),
  λ k. (filter_holds (is_start settings) (in_order start_cmp (ends settings)) t k).1,
)

-- ---- a list of starts by owner, by number

not_less_itself : (t u : Start) → start_cmp t u ≡ Less → u ≡ t → ⊥
not_less_itself t u l e = let k = subst (λ (w : Start). start_cmp t w ≡ Less) e l in true≢false (sym (ap is_lt k) ∙ ap is_lt (tied_itself start_total t))

module _ (names : Names) (d : AreDistinct names) where
  abbrev HaveNumbers : List Start → Type 0
  HaveNumbers ts = (t : Start) → Holds ts t → (n : ℕ) × (names n ≡ Some t.owner)

  abbrev by_number : (ts : List Start) → HaveNumbers ts → List NumberStart
  by_number [] f = []
  by_number (t ∷ ts) f = start_of_number (f t (inl refl)).0 t ∷ by_number ts (λ u k. f u (inr k))

  length_by_number : (ts : List Start) (f : HaveNumbers ts) → length (by_number ts f) ≡ length ts
  length_by_number [] f = refl
  length_by_number (t ∷ ts) f = ap (λ n. suc n) (length_by_number ts (λ u k. f u (inr k)))

  start_is : (s : NumberStart) (x : Owner) (n : ℕ) (t : Start) → names s.owner ≡ Some x → names n ≡ Some t.owner → Decides (same_start s (start_of_number n t)) (t ≡ start_by x s)
  start_is s x n t e f = (
    λ k.
        let a : s.file ≡ t.file = grind (arith, file_tests) in
        let b : s.owner ≡ n = grind (arith, file_tests) in
        let c : s.byte ≡ t.byte = grind (arith, file_tests) in
        let o : t.owner ≡ x = same_Some t.owner x (sym f ∙ ap names (sym b) ∙ e) in
        ap (λ y. end_at y t.owner t.byte) (sym a) ∙ ap (λ y. end_at s.file y t.byte) o ∙ ap (λ y. end_at s.file x y) (sym c),
    λ k.
        let a : t.file ≡ s.file = ap (λ u. u.file) k in
        let o : t.owner ≡ x = ap (λ u. u.owner) k in
        let c : t.byte ≡ s.byte = ap (λ u. u.byte) k in
        let b : n ≡ s.owner = d.once n s.owner x (f ∙ ap Some o) e in
        grind (arith, file_tests),
  )

  member_is : (ts : List Start) (f : HaveNumbers ts) (s : NumberStart) (x : Owner) → names s.owner ≡ Some x → Decides (is_member same_start (by_number ts f) s) (Holds ts (start_by x s))
  member_is [] f s x e = (λ k. absurd (true≢false (sym k)), λ k. absurd k)
  member_is (t ∷ ts) f s x e =
      let n = f t (inl refl) in
      let here = start_is s x n.0 t e n.1 in
      let more = member_is ts (λ u k. f u (inr k)) s x e in (
        λ k. elim (or_cases (same_start s (start_of_number n.0 t)) (is_member same_start (by_number ts (λ u k. f u (inr k))) s) k) [ inl i ↦ inl (here.0 i) | inr i ↦ inr (more.0 i) ],
        λ k. elim k [
          | inl i ↦ or_left (same_start s (start_of_number n.0 t)) (is_member same_start (by_number ts (λ u k. f u (inr k))) s) (here.1 i)
          | inr i ↦ or_right (same_start s (start_of_number n.0 t)) (is_member same_start (by_number ts (λ u k. f u (inr k))) s) (more.1 i)
        ],
      )

  no_member : (ts : List Start) (f : HaveNumbers ts) (s : NumberStart) → names s.owner ≡ None → is_member same_start (by_number ts f) s ≡ false
  no_member [] f s e = refl
  no_member (t ∷ ts) f s e =
      let n = f t (inl refl) in
      let more = no_member ts (λ u k. f u (inr k)) s e in
      by_test (same_start s (start_of_number n.0 t))
      (λ k. let b : s.owner ≡ n.0 = grind (arith, file_tests) in absurd (some_none t.owner (sym n.1 ∙ ap names (sym b) ∙ e)))
      (λ k. rw k more)

  apart : (t : Start) (n : ℕ) → names n ≡ Some t.owner → (ts : List Start) (f : HaveNumbers ts) → IsBelowAll start_cmp t ts → AllByRecursion (λ s. same_start (start_of_number n t) s ≡ false) (by_number ts f)
  apart t n e [] f b = tt
  apart t n e (u ∷ us) f b =
      let m = f u (inl refl) in (
        by_test (same_start (start_of_number n t) (start_of_number m.0 u))
            (λ k. absurd (not_less_itself t u b.0 ((start_is (start_of_number n t) t.owner m.0 u e m.1).0 k)))
            (λ k. k),
        apart t n e us (λ v k. f v (inr k)) b.1,
      )

  distinct_by_number : (ts : List Start) (f : HaveNumbers ts) → IsAscending start_cmp ts → IsDistinct same_start (by_number ts f)
  unfolding IsDistinct
  distinct_by_number [] f a = tt
  distinct_by_number (t ∷ ts) f a = let n = f t (inl refl) in (apart t n.0 n.1 ts (λ u k. f u (inr k)) a.0, distinct_by_number ts (λ u k. f u (inr k)) a.1)

  pub counted : (ts : List Start) (other : Held) → HaveNumbers ts → IsAscending start_cmp ts → ((s : NumberStart) (x : Owner) → names s.owner ≡ Some x → Decides (is_number_start other s) (Holds ts (start_by x s))) → ((s : NumberStart) → names s.owner ≡ None → is_number_start other s ≡ false) → IsUsed other (length ts)
  counted ts other f a each none = record {
    starts = by_number ts f;
    distinct = distinct_by_number ts f a;
    all = λ s. by_name s (names s.owner) refl;
    counted = length_by_number ts f;
  } where
    by_name : (s : NumberStart) (o : Option Owner) → names s.owner ≡ o → is_member same_start (by_number ts f) s ≡ is_number_start other s
    by_name s None e = no_member ts f s e ∙ sym (none s e)
    by_name s (Some x) e = same_from_decides (is_member same_start (by_number ts f) s) (is_number_start other s) (member_is ts f s x e) (each s x e)

-- ---- how many runs

module _ (names : Names) (held : Held) (settings : List Setting) (h : Stands names held settings) where
  start_has_number : (t : Start) → Holds (starts settings) t → (n : ℕ) × (names n ≡ Some t.owner)
  start_has_number t k = h.numbered t.owner t.file t.byte ((starts_law.exactly settings t).0 k).0

  pub used_is : IsUsed held (used settings)
  used_is = counted names h.distinct (starts settings) held start_has_number (starts_law.in_order settings)
      (λ s x e. rw (starts_same names held settings h s x e) (starts_hold settings (start_by x s)))
      (λ s e. no_start names held settings h s e)

pub used_over : UsedLaw
used_over names held settings count h u = used_once held count (used settings) u (used_is names held settings h)

pub used_after_over : UsedAfterLaw
used_after_over names ns settings s t count h e u = used_over names (held_after (held_at ns) s) (settings ++ t ∷ []) count (stands_set names (held_at ns) settings s t h e) u

-- ---- how many runs of one host

is_start_of : (has : ℕ → Bool) (held : Held) (s : NumberStart) → is_number_start (held_by has held) s ≡ (has s.owner && is_number_start held s)
is_start_of has held s =
    by_test (has s.owner)
    (λ t. rw t refl)
    (λ t. rw t refl)

module _ (names : Names) (held : Held) (settings : List Setting) (has : ℕ → Bool) (name : Bytes) (h : Stands names held settings) (of : AreOfHost names has name) where
  abbrev is_of : Start → Bool
  is_of t = is_of_host name t.owner

  starts_of_hold : (s : NumberStart) (x : Owner) → names s.owner ≡ Some x → Decides (is_number_start (held_by has held) s) (Holds (filter is_of (starts settings)) (start_by x s))
  starts_of_hold s x e =
      let same : is_number_start (held_by has held) s ≡ (is_of_host name x && is_start settings (start_by x s)) = is_start_of has held s ∙ ap (λ b. b && is_number_start held s) (of.agrees s.owner x e) ∙ ap (λ b. is_of_host name x && b) (starts_same names held settings h s x e) in (
        λ k. let p = and_parts (is_of_host name x) (is_start settings (start_by x s)) (sym same ∙ k) in holds_filter is_of (starts settings) (start_by x s) ((starts_hold settings (start_by x s)).0 p.1) p.0,
        λ k. let p = filter_holds is_of (starts settings) (start_by x s) k in same ∙ and_from (is_of_host name x) (is_start settings (start_by x s)) p.1 ((starts_hold settings (start_by x s)).1 p.0),
      )

  pub used_of_is : IsUsed (held_by has held) (used_of name settings)
  used_of_is = counted names h.distinct (filter is_of (starts settings)) (held_by has held)
      (λ t k. start_has_number names held settings h t (filter_holds is_of (starts settings) t k).0)
      (filter_ascends is_of start_cmp (starts settings) (starts_law.in_order settings))
      starts_of_hold
      (λ s e. by_test (has s.owner) (λ t. is_start_of has held s ∙ rw t (no_start names held settings h s e)) (λ t. is_start_of has held s ∙ rw t refl))

pub used_of_over : UsedOfLaw
used_of_over names held settings has name count h of u = used_once (held_by has held) count (used_of name settings) u (used_of_is names held settings has name h of)

-- ---- refusals

module _ (names : Names) (held : Held) (settings : List Setting) (s : NumberSetting) (t : Setting) (h : Stands names held settings) (e : IsSameSetting names s t) where
  abbrev more_after : Bool
  more_after = ltb (used settings) (used (settings ++ t ∷ []))

  no_mode : (m : Option NumberMode) (k : Option Mode) → view_of_held_mode m ≡ k → is_some k ≡ false → IsNone m
  no_mode None k e f = refl
  no_mode (Some m) k e f = absurd (true≢false (ap is_some e ∙ f))

  none_mode : (m : Option NumberMode) (k : Option Mode) → view_of_held_mode m ≡ k → IsNone m → is_some k ≡ false
  none_mode None k e f = sym (ap is_some e)
  none_mode (Some m) k e f = absurd (cc)

  refused : IsRefused held s → refuses 65536 settings t ≡ true
  refused r =
      let n : r.before ≡ used settings = used_over names held settings r.before h r.now in
      let full = r.full in
      and_from (ltb 65536 (used settings + 2)) (is_some t.mode || more_after) (lt-ltb 65536 (used settings + 2) (omega arith))
      (by_test (is_some t.mode)
      (λ i. or_left (is_some t.mode) more_after i)
      (λ i. let a = r.unless (no_mode s.mode t.mode e.mode i) in
      let m : a.0 ≡ used (settings ++ t ∷ []) = used_over names (held_after held s) (settings ++ t ∷ []) a.0 (stands_set names held settings s t h e) a.1 in
      let l = a.2 in
      or_right (is_some t.mode) more_after (lt-ltb (used settings) (used (settings ++ t ∷ [])) (omega arith))))

  refusal : refuses 65536 settings t ≡ true → IsRefused held s
  refusal r =
      let p = and_parts (ltb 65536 (used settings + 2)) (is_some t.mode || more_after) r in
      record {
        before = used settings;
        now = used_is names held settings h;
        full = ltb-true 65536 (used settings + 2) p.0;
        unless = λ n.
            let i = none_mode s.mode t.mode e.mode n in
            let k : more_after ≡ true = elim (or_cases (is_some t.mode) more_after p.1) [ inl j ↦ absurd (true≢false (sym j ∙ i)) | inr j ↦ j ] in
            (used (settings ++ t ∷ []), used_is names (held_after held s) (settings ++ t ∷ []) (stands_set names held settings s t h e), ltb-true (used settings) (used (settings ++ t ∷ [])) k);
      }

pub refusal_over : RefusalLaw
refusal_over names held settings s t h e = (refused names held settings s t h e, refusal names held settings s t h e)

-- ---- the numbers of a host's owners

pub of_host : (names : Names) (name : Bytes) → AreOfHost names (is_owned_by names name) name
of_host names name = record { agrees = λ n x e. ap (is_some_of_host name) e }

pub two_less : (n : ℕ) → ltb 65534 n ≡ ltb 65536 (n + 2)
two_less n = both_ways (ltb 65534 n) (ltb 65536 (n + 2)) (λ t. grind (arith, nat_tests, t)) (λ t. grind (arith, nat_tests, t))
