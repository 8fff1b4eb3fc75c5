-- The i-th run by number is the i-th run by owner.
use Rattle.std.proofs.Common.{◌≡◌, ℕ, zero, suc, true, List, [], ◌∷◌, map, refl, sym, ap, ◌∙◌, subst, ◌⊎◌, inl, inr, Some, length, slice_get}
use Rattle.std.proofs.lemmas.Bool.{true≢false}
use Rattle.std.proofs.lemmas.Cmp.{tied_itself}
use Rattle.std.proofs.lemmas.List.{length-map}
use Rattle.std.specs.List.{AllByRecursion}
use Rattle.std.specs.Ordering.{is_lt}
use Rattle.std.specs.declared.cmp.Ordering.{Ordering}
use Rattle.std.specs.declared.cmp.Ordering.TheVariants.{Less}
use Rattle.std.proofs.lemmas.Option.{same_Some}
use Rattle.definitions.specs.Bytes.{Holds, IsBelowAll, IsAscending}
use Rattle.definitions.specs.Settings.{Setting}
use Rattle.definitions.specs.Starts.{Run, Start, IsRun, start_of, start_cmp, starts, runs, run_at, used}
use Rattle.definitions.proofs.Orders.{below_of}
use Rattle.definitions.proofs.StartLaws.{start_total, starts_law}
use Rattle.range_table.specs.File.{file_cmp}
use Rattle.range_table.specs.Settings.{Held, IsIn, IsOrdered, AreRuns, comes_before, IsRun as IsNumberRun}
use Rattle.range_table.specs.declared.run.Run.{Run as NumberRun}
use Rattle.owner_ids.specs.Names.{Names, number_cmp}
use Rattle.owner_ids.proofs.Orders.{number_agrees}
use Rattle.held_locks.specs.Same.{IsSameRun, view_of_run}
use Rattle.held_locks.specs.Stands.{Stands, RunOrderLaw}
use Rattle.held_locks.proofs.Words.{some_none}
use Rattle.held_locks.proofs.FirstConflicts.{of_fields, run_over, run_listed, owner_of, runs_over}
use Rattle.range_table.proofs.Orderings.{lt_is}

-- ---- ascending lists with the same members are one

abbrev run_cmp : Run → Run → Ordering
run_cmp a b = start_cmp (start_of a) (start_of b)

not_below_itself : (a : Run) → run_cmp a a ≡ Less → ⊥
not_below_itself a h = true≢false (sym (ap is_lt h) ∙ ap is_lt (tied_itself start_total (start_of a)))

not_below_both : (a b : Run) → run_cmp a b ≡ Less → run_cmp b a ≡ Less → ⊥
not_below_both a b h k = not_below_itself a (start_total.trans (start_of a) (start_of b) (start_of a) h k)

same_members : (xs ys : List Run) → IsAscending run_cmp xs → IsAscending run_cmp ys → ((x : Run) → Holds xs x → Holds ys x) → ((x : Run) → Holds ys x → Holds xs x) → xs ≡ ys
same_members [] [] o p f g = refl
same_members [] (b ∷ ys) o p f g = absurd (g b (inl refl))
same_members (a ∷ xs) [] o p f g = absurd (f a (inl refl))
same_members (a ∷ xs) (b ∷ ys) o p f g =
    let e : a ≡ b = heads (f a (inl refl)) (g b (inl refl)) in
    ap (λ x. x ∷ xs) e ∙ ap (λ zs. b ∷ zs) (same_members xs ys o.1 p.1
    (λ x i. rest_right x e (below_of run_cmp a xs o.0 x i) (f x (inr i)))
    (λ x i. rest_left x e (below_of run_cmp b ys p.0 x i) (g x (inr i)))) where
      heads : (b ≡ a) ⊎ Holds ys a → (a ≡ b) ⊎ Holds xs b → a ≡ b
      heads (inl e) k = sym e
      heads (inr i) (inl e) = e
      heads (inr i) (inr j) = absurd (not_below_both a b (below_of run_cmp a xs o.0 b j) (below_of run_cmp b ys p.0 a i))

      rest_right : (x : Run) → a ≡ b → run_cmp a x ≡ Less → (b ≡ x) ⊎ Holds ys x → Holds ys x
      rest_right x e l (inl q) = absurd (not_below_itself a (subst (λ y. run_cmp a y ≡ Less) (sym q ∙ sym e) l))
      rest_right x e l (inr i) = i

      rest_left : (x : Run) → a ≡ b → run_cmp b x ≡ Less → (a ≡ x) ⊎ Holds xs x → Holds xs x
      rest_left x e l (inl q) = absurd (not_below_itself b (subst (λ y. run_cmp b y ≡ Less) (sym q ∙ e) l))
      rest_left x e l (inr i) = i

below_map : (settings : List Setting) (t : Start) (ts : List Start) → IsBelowAll start_cmp t ts → IsBelowAll run_cmp (run_at settings t) (map (run_at settings) ts)
below_map settings t [] h = tt
below_map settings t (u ∷ us) h = (h.0, below_map settings t us h.1)

runs_ascend : (settings : List Setting) (ts : List Start) → IsAscending start_cmp ts → IsAscending run_cmp (map (run_at settings) ts)
runs_ascend settings [] h = tt
runs_ascend settings (t ∷ ts) h = (below_map settings t ts h.0, runs_ascend settings ts h.1)

-- ---- runs by number beside runs by owner

abbrev Paired : Names → List NumberRun → List Run → Type 0
Paired names [] [] = Unit {0}
Paired names (r ∷ rs) (t ∷ ts) = IsSameRun names r t × Paired names rs ts
Paired names _ _ = ⊥

read_pair : (names : Names) (rs : List NumberRun) (ts : List Run) (i : ℕ) (r : NumberRun) → Paired names rs ts → slice_get rs i ≡ Some r → (t : Run) × (slice_get ts i ≡ Some t) × IsSameRun names r t
read_pair names [] [] i r p e = absurd (some_none r (sym e))
read_pair names [] (t ∷ ts) i r p e = absurd p
read_pair names (s ∷ rs) [] i r p e = absurd p
read_pair names (s ∷ rs) (t ∷ ts) zero r p e = (t, refl, subst (λ x. IsSameRun names x t) (same_Some s r e) p.0)
read_pair names (s ∷ rs) (t ∷ ts) (suc i) r p e = read_pair names rs ts i r p.1 e

module _ (names : Names) (held : Held) (settings : List Setting) (h : Stands names held settings) where
  pair_of : (r : NumberRun) → IsNumberRun held r → (t : Run) × IsSameRun names r t × IsRun settings t
  pair_of r k =
      let x = owner_of names held settings h r k in
      (view_of_run x.0 r, record { file = refl; owner = x.1; first = refl; last = refl; mode = refl }, run_over names held settings h r x.0 x.1 k)

  pairs_of : (rs : List NumberRun) → ((r : NumberRun) → IsIn r rs → IsNumberRun held r) → (ts : List Run) × Paired names rs ts × ((t : Run) → Holds ts t → IsRun settings t)
  pairs_of [] k = ([], tt, λ t i. absurd i)
  pairs_of (r ∷ rs) k =
      let p = pair_of r (k r (inl refl)) in
      let more = pairs_of rs (λ s i. k s (inr i)) in
      (p.0 ∷ more.0, (p.1, more.1), each p.0 more.0 p.2 more.2) where
        each : (t : Run) (ts : List Run) → IsRun settings t → ((u : Run) → Holds ts u → IsRun settings u) → (u : Run) → (t ≡ u) ⊎ Holds ts u → IsRun settings u
        each t ts a b u (inl e) = subst (IsRun settings) e a
        each t ts a b u (inr i) = b u i

  order_same : (r s : NumberRun) (t u : Run) → IsSameRun names r t → IsSameRun names s u → comes_before (number_cmp names) r s ≡ is_lt (run_cmp t u)
  unfolding file_cmp
  order_same r s t u a b = rw (number_agrees names h.distinct r.owner s.owner t.owner u.owner a.owner b.owner, a.file, b.file, a.first, b.first) refl

  order_over : (r s : NumberRun) (t u : Run) → IsSameRun names r t → IsSameRun names s u → comes_before (number_cmp names) r s ≡ true → run_cmp t u ≡ Less
  order_over r s t u a b c = lt_is (run_cmp t u) (sym (order_same r s t u a b) ∙ c)

  below_over : (r : NumberRun) (t : Run) (rs : List NumberRun) (ts : List Run) → IsSameRun names r t → Paired names rs ts → AllByRecursion (λ s. comes_before (number_cmp names) r s ≡ true) rs → IsBelowAll run_cmp t ts
  below_over r t [] [] a p c = tt
  below_over r t [] (u ∷ us) a p c = absurd p
  below_over r t (s ∷ ss) [] a p c = absurd p
  below_over r t (s ∷ ss) (u ∷ us) a p c = (order_over r s t u a p.0 c.0, below_over r t ss us a p.1 c.1)

  ascends_over : (rs : List NumberRun) (ts : List Run) → Paired names rs ts → IsOrdered (number_cmp names) rs → IsAscending run_cmp ts
  ascends_over [] [] p o = tt
  ascends_over [] (u ∷ us) p o = absurd p
  ascends_over (r ∷ rs) [] p o = absurd p
  ascends_over (r ∷ rs) (t ∷ ts) p o = (below_over r t rs ts p.0 p.1 o.0, ascends_over rs ts p.1 o.1)

  -- a run by owner is there where its run by number is
  held_pair : (rs : List NumberRun) (ts : List Run) (r : NumberRun) → Paired names rs ts → IsIn r rs → (t : Run) × Holds ts t × IsSameRun names r t
  held_pair [] ts r p i = absurd i
  held_pair (s ∷ rs) [] r p i = absurd p
  held_pair (s ∷ rs) (t ∷ ts) r p i = go i (held_pair rs ts r p.1) where
    go : (r ≡ s) ⊎ IsIn r rs → (IsIn r rs → (u : Run) × Holds ts u × IsSameRun names r u) → (u : Run) × Holds (t ∷ ts) u × IsSameRun names r u
    go (inl e) more = (t, inl refl, subst (λ x. IsSameRun names x t) (sym e) p.0)
    go (inr j) more = let m = more j in (m.0, inr m.1, m.2)

  same_back : (r : NumberRun) (t u : Run) → IsSameRun names r t → IsSameRun names r u → t ≡ u
  same_back r t u a b =
      ap (λ z. of_fields z t.owner t.first t.last t.mode) (sym a.file ∙ b.file)
      ∙ ap (λ z. of_fields u.file z t.first t.last t.mode) (same_Some t.owner u.owner (sym a.owner ∙ b.owner))
      ∙ ap (λ z. of_fields u.file u.owner z t.last t.mode) (sym a.first ∙ b.first)
      ∙ ap (λ z. of_fields u.file u.owner u.first z t.mode) (sym a.last ∙ b.last)
      ∙ ap (λ z. of_fields u.file u.owner u.first u.last z) (sym a.mode ∙ b.mode)

  -- the runs by number are those by owner, one by one
  list_over : (rs : List NumberRun) → AreRuns (number_cmp names) held rs → (ts : List Run) × Paired names rs ts × (ts ≡ runs settings)
  list_over rs a =
      let p = pairs_of rs a.each in (
        p.0,
        p.1,
        same_members p.0 (runs settings) (ascends_over rs p.0 p.1 a.ordered) (runs_ascend settings (starts settings) (starts_law.in_order settings))
            (λ t k. run_listed names held settings h t (p.2 t k))
            (λ t k.
            let b = runs_over.back names held settings t h k in
            let q = held_pair rs p.0 b.0 p.1 (a.all b.0 b.2) in
            subst (Holds p.0) (same_back b.0 q.0 t q.2 b.1) q.1),
      )

  pub nth_over : (rs : List NumberRun) (i : ℕ) (r : NumberRun) → AreRuns (number_cmp names) held rs → slice_get rs i ≡ Some r → (t : Run) × (slice_get (runs settings) i ≡ Some t) × IsSameRun names r t
  nth_over rs i r a e =
      let p = list_over rs a in
      let q = read_pair names rs p.0 i r p.1 e in
      (q.0, subst (λ ts. slice_get ts i ≡ Some q.0) p.2 q.1, q.2)

  length-paired : (rs : List NumberRun) (ts : List Run) → Paired names rs ts → length rs ≡ length ts
  length-paired [] [] p = refl
  length-paired [] (t ∷ ts) p = absurd p
  length-paired (r ∷ rs) [] p = absurd p
  length-paired (r ∷ rs) (t ∷ ts) p = ap suc (length-paired rs ts p.1)

  pub length_over : (rs : List NumberRun) → AreRuns (number_cmp names) held rs → length rs ≡ used settings
  length_over rs a = let p = list_over rs a in length-paired rs p.0 p.1 ∙ ap length p.2 ∙ length-map (starts settings) (run_at settings)

pub run_order_over : RunOrderLaw
run_order_over names held settings rs i r h a e = nth_over names held settings h rs i r a e
