-- Rows that are told apart by their rowids stay so, in any order, with one more and with some fewer.
use Rattle.std.proofs.Common.{◌≡◌, ◌≤◌, ℕ, ℤ, ◌+◌, Bool, true, false, cond, not, ◌||◌, List, [], ◌∷◌, map, filter, Option, Some, refl, sym, ap, subst, ◌∙◌, arith}
use Rattle.std.proofs.lemmas.Bool.{true≢false, or_from, not-false, or_parts}
use Rattle.std.specs.declared.cmp.Ordering.{Ordering}
use Rattle.std.specs.declared.cmp.Ordering.TheVariants.{Less, Equal, Greater}
use Rattle.std.specs.List.{list_any}
use Rattle.std.specs.List.Sorted.{IsPermutation}
use Rattle.std.specs.Ordering.{is_eq, int_cmp, match_ordering, ordering_reverse}
use Rattle.std.specs.Cmp.{eq_by_cmp_equiv}
use Rattle.std.proofs.lemmas.Cmp.{tied_itself, int_cmp_total}
use Rattle.std.proofs.lemmas.List.Sums.{sum_by-cons}
use Rattle.std.proofs.lemmas.List.Sorted.{sum_by-IsPermutation, list_any-IsPermutation}
use Rattle.sqlite_value.specs.declared.value.Value.{Value}
use Rattle.sqlite_value.specs.declared.value.Value.TheVariants.{Null, Int, Real, Text, Blob}
use Rattle.sqlite_value.specs.Order.{Row, value_cmp}
use Rattle.sqlite_value.proofs.OrderLemmas.{value_cmp_total, value_cmp-Int}
use Rattle.std.proofs.lemmas.Map.Lookups.{exact_signed}
use Rattle.sqlite_trees.specs.View.{is_int}
use Rattle.sqlite_trees.specs.Tree.{rowid, has_rowid, put_row}
use Rattle.sqlite_rules.specs.Edit.{id_in, is_taken}
use Rattle.hosts_sql.specs.Own.{AreOwn, AllFit, Rises, count_of}
use Rattle.hosts_sql.proofs.Gone.{AreOwnIds}

abbrev unit_if : Bool → ℕ
unit_if b = cond b 1 0

counted : (id : ℤ) (r : Row) (rs : List Row) → count_of id (r ∷ rs) ≡ unit_if (has_rowid id r) + count_of id rs
counted id r rs = sum_by-cons (λ row. cond (has_rowid id row) 1 0) r rs

pub int_is : (v : Value) → is_int v ≡ true → v ≡ Int (id_in v)
int_is Null h = absurd (true≢false (sym h))
int_is (Int n) h = refl
int_is (Real x) h = absurd (true≢false (sym h))
int_is (Text t) h = absurd (true≢false (sym h))
int_is (Blob b) h = absurd (true≢false (sym h))

none_met : (id : ℤ) (rows : List Row) → count_of id rows ≡ 0 → list_any (has_rowid id) rows ≡ false
none_met id [] h = refl
none_met id (r ∷ rs) h = go (has_rowid id r) (counted id r rs) (λ z. none_met id rs z)
  where
    go : (b : Bool) → count_of id (r ∷ rs) ≡ unit_if b + count_of id rs → (count_of id rs ≡ 0 → list_any (has_rowid id) rs ≡ false) → (b || list_any (has_rowid id) rs) ≡ false
    go true e more = absurd (omega (arith, e, h))
    go false e more = more (omega (arith, e, h))

pub eq_equal : (o : Ordering) → is_eq o ≡ true → o ≡ Equal
eq_equal Less h = absurd (true≢false (sym h))
eq_equal Equal h = refl
eq_equal Greater h = absurd (true≢false (sym h))

module _ (fits : Row → Bool) where
  pub first_fits : (r : Row) (rs : List Row) → list_any (λ row. not (fits row)) (r ∷ rs) ≡ false → fits r ≡ true
  first_fits r rs h = not-false (fits r) ((or_parts (not (fits r)) (list_any (λ row. not (fits row)) rs) h).0)

  pub rest_fits : (r : Row) (rs : List Row) → list_any (λ row. not (fits row)) (r ∷ rs) ≡ false → list_any (λ row. not (fits row)) rs ≡ false
  rest_fits r rs h = (or_parts (not (fits r)) (list_any (λ row. not (fits row)) rs) h).1

  pub own_rest : (r : Row) (rs : List Row) → AreOwn fits (r ∷ rs) → AreOwn fits rs
  own_rest r rs own = (rest_fits r rs own.0, λ id. let e = counted id r rs in let h = own.1 id in omega (arith, e, h))

  module _ (whole : (r : Row) → fits r ≡ true → is_int (rowid r) ≡ true) where
    pub own_ids : (rows : List Row) → AreOwn fits rows → AreOwnIds rows
    own_ids [] own = tt
    own_ids (r ∷ rs) own =
        let id = id_in (rowid r) in
        let rid : rowid r ≡ Int id = int_is (rowid r) (whole r (first_fits r rs own.0)) in
        let itself : has_rowid id r ≡ true = ap (λ v. is_eq (value_cmp (rowid r) v)) (sym rid) ∙ ap is_eq (tied_itself value_cmp_total (rowid r)) in
        let e = counted id r rs in
        let h = own.1 id in
        let f : unit_if (has_rowid id r) ≡ 1 = ap unit_if itself in
        let zero : count_of id rs ≡ 0 = omega (arith, e, h, f) in
        (rid, ap (λ v. list_any (λ s. is_eq (value_cmp (rowid s) v)) rs) rid ∙ none_met id rs zero, own_ids rs (own_rest r rs own))

  pub own_moved : (xs ys : List Row) → IsPermutation xs ys → AreOwn fits xs → AreOwn fits ys
  own_moved xs ys moved own =
      (sym (list_any-IsPermutation (λ row. not (fits row)) xs ys moved) ∙ own.0, λ id. subst (λ n. n ≤ 1) (sym (sum_by-IsPermutation (λ row. cond (has_rowid id row) 1 0) xs ys moved)) (own.1 id))

  -- ---- some fewer

  pub own_filtered : (p : Row → Bool) (rows : List Row) → AreOwn fits rows → AreOwn fits (filter p rows)
  own_filtered p rows own = (fewer rows own.0, λ id. let h = less id rows in let k = own.1 id in omega (arith, h, k))
    where
      fewer : (rows : List Row) → list_any (λ row. not (fits row)) rows ≡ false → list_any (λ row. not (fits row)) (filter p rows) ≡ false
      fewer [] h = refl
      fewer (r ∷ rs) h = go (p r) (fewer rs (rest_fits r rs h))
        where
          go : (b : Bool) → list_any (λ row. not (fits row)) (filter p rs) ≡ false → list_any (λ row. not (fits row)) (cond b (r ∷ filter p rs) (filter p rs)) ≡ false
          go true more = or_from _ _ ((or_parts (not (fits r)) (list_any (λ row. not (fits row)) rs) h).0) more
          go false more = more

      less : (id : ℤ) (rows : List Row) → count_of id (filter p rows) ≤ count_of id rows
      less id [] = omega arith
      less id (r ∷ rs) = go (p r) (less id rs)
        where
          go : (b : Bool) → count_of id (filter p rs) ≤ count_of id rs → count_of id (cond b (r ∷ filter p rs) (filter p rs)) ≤ count_of id (r ∷ rs)
          go true more = let e = counted id r (filter p rs) in let f = counted id r rs in omega (arith, e, f, more)
          go false more = let f = counted id r rs in omega (arith, f, more)

  -- ---- one more

  pub own_put : (new : Row) (rows : List Row) → fits new ≡ true → is_taken rows new ≡ false → AreOwn fits rows → AreOwn fits (put_row new rows)
  own_put new rows fit free own = (more_fit rows own.0, λ id. bounded id (has_rowid id new) refl)
    where
      more_fit : (rows : List Row) → list_any (λ row. not (fits row)) rows ≡ false → list_any (λ row. not (fits row)) (put_row new rows) ≡ false
      more_fit [] h = ap (λ b. not b || false) fit
      more_fit (r ∷ rs) h = go (value_cmp (rowid r) (rowid new)) (more_fit rs (rest_fits r rs h))
        where
          first : not (fits r) ≡ false
          first = (or_parts (not (fits r)) (list_any (λ row. not (fits row)) rs) h).0

          go : (o : Ordering) → list_any (λ row. not (fits row)) (put_row new rs) ≡ false → list_any (λ row. not (fits row)) (match_ordering o (r ∷ put_row new rs) (new ∷ rs) (new ∷ r ∷ rs)) ≡ false
          go Less more = or_from _ _ first more
          go Equal more = or_from _ _ (ap not fit) (rest_fits r rs h)
          go Greater more = or_from _ _ (ap not fit) h

      at_most : (id : ℤ) (rows : List Row) → count_of id (put_row new rows) ≤ unit_if (has_rowid id new) + count_of id rows
      at_most id [] = let e = counted id new [] in omega (arith, e)
      at_most id (r ∷ rs) = go (value_cmp (rowid r) (rowid new)) (at_most id rs)
        where
          go : (o : Ordering) → count_of id (put_row new rs) ≤ unit_if (has_rowid id new) + count_of id rs
              → count_of id (match_ordering o (r ∷ put_row new rs) (new ∷ rs) (new ∷ r ∷ rs)) ≤ unit_if (has_rowid id new) + count_of id (r ∷ rs)
          go Less more = let e = counted id r (put_row new rs) in let f = counted id r rs in omega (arith, e, f, more)
          go Equal more = let e = counted id new rs in let f = counted id r rs in omega (arith, e, f)
          go Greater more = let e = counted id new (r ∷ rs) in omega (arith, e)

      none : (id : ℤ) → has_rowid id new ≡ true → (rows : List Row) → is_taken rows new ≡ false → count_of id rows ≡ 0
      none id ties [] h = refl
      none id ties (r ∷ rs) h =
          let equiv = eq_by_cmp_equiv value_cmp_total in
          let apart : has_rowid id r ≡ false =
          equiv.symm (rowid r) (Int id) ∙ equiv.congr (Int id) (rowid new) (rowid r) (equiv.symm (Int id) (rowid new) ∙ ties) ∙ equiv.symm (rowid new) (rowid r) ∙ (or_parts (is_eq (value_cmp (rowid r) (rowid new))) (is_taken rs new) h).0 in
          let rest = none id ties rs ((or_parts (is_eq (value_cmp (rowid r) (rowid new))) (is_taken rs new) h).1) in
          let e = counted id r rs in
          let f : unit_if (has_rowid id r) ≡ 0 = ap unit_if apart in
          omega (arith, e, f, rest)

      bounded : (id : ℤ) (b : Bool) → has_rowid id new ≡ b → count_of id (put_row new rows) ≤ 1
      bounded id true e = let a = at_most id rows in let z = none id e rows free in let f : unit_if (has_rowid id new) ≡ 1 = ap unit_if e in omega (arith, a, z, f)
      bounded id false e = let a = at_most id rows in let h = own.1 id in let f : unit_if (has_rowid id new) ≡ 0 = ap unit_if e in omega (arith, a, h, f)

  -- ---- as a query shows them

  pub fit_of_map : (f : Row → Row) → ((r : Row) → fits (f r) ≡ fits r) → (rows : List Row) → AllFit fits (map f rows) → AllFit fits rows
  fit_of_map f same rows fit = sym (alike rows) ∙ fit
    where
      alike : (rows : List Row) → list_any (λ row. not (fits row)) (map f rows) ≡ list_any (λ row. not (fits row)) rows
      alike [] = refl
      alike (r ∷ rs) = ap (λ b. not b || list_any (λ row. not (fits row)) (map f rs)) (same r) ∙ ap (λ b. not (fits r) || b) (alike rs)

  pub own_of_map : (f : Row → Row) → ((r : Row) → fits (f r) ≡ fits r) → ((r : Row) → rowid (f r) ≡ rowid r) → (rows : List Row) → AreOwn fits (map f rows) → AreOwn fits rows
  own_of_map f same id_same rows own = (fit_of_map f same rows own.0, λ id. subst (λ n. n ≤ 1) (as_many id rows) (own.1 id))
    where
      as_many : (id : ℤ) (rows : List Row) → count_of id (map f rows) ≡ count_of id rows
      as_many id [] = refl
      as_many id (r ∷ rs) = counted id (f r) (map f rs) ∙ ap (λ v. unit_if (is_eq (value_cmp v (Int id))) + count_of id (map f rs)) (id_same r) ∙ ap (λ n. unit_if (has_rowid id r) + n) (as_many id rs) ∙ sym (counted id r rs)

  -- ---- rows whose rowids rise

  pub rising_own : (last : Option ℤ) (rows : List Row) → Rises fits last rows → AreOwn fits rows
  rising_own last rows h = (all_fit last rows h, λ id. few id last rows h)
    where
      all_fit : (last : Option ℤ) (rows : List Row) → Rises fits last rows → list_any (λ row. not (fits row)) rows ≡ false
      all_fit last [] h = refl
      all_fit last (r ∷ rs) h = or_from _ _ (ap not h.2) (all_fit (Some h.0) rs h.4)

      apart : (id : ℤ) (r : Row) (n : ℤ) → rowid r ≡ Int n → int_cmp id n ≡ Less → has_rowid id r ≡ false
      apart id r n is low = ap (λ v. is_eq (value_cmp v (Int id))) is ∙ ap is_eq (value_cmp-Int n id ∙ int_cmp_total.antisymm n id ∙ ap ordering_reverse low)

      below : (id : ℤ) (l : ℤ) (rows : List Row) → ((m : ℤ) → int_cmp l m ≡ Less → int_cmp id m ≡ Less) → Rises fits (Some l) rows → count_of id rows ≡ 0
      below id l [] low h = refl
      below id l (r ∷ rs) low h =
          let here : unit_if (has_rowid id r) ≡ 0 = ap unit_if (apart id r h.0 h.1 (low h.0 h.3)) in
          let rest = below id h.0 rs (λ m k. low m (int_cmp_total.trans l h.0 m h.3 k)) h.4 in
          let e = counted id r rs in omega (arith, e, here, rest)

      few : (id : ℤ) (last : Option ℤ) (rows : List Row) → Rises fits last rows → count_of id rows ≤ 1
      few id last [] h = omega arith
      few id last (r ∷ rs) h = go (has_rowid id r) refl (few id (Some h.0) rs h.4) (λ low. below id h.0 rs low h.4)
        where
          tie : has_rowid id r ≡ true → id ≡ h.0
          tie e = sym (exact_signed h.0 id (eq_equal (int_cmp h.0 id) (ap is_eq (sym (value_cmp-Int h.0 id)) ∙ ap (λ v. is_eq (value_cmp v (Int id))) (sym h.1) ∙ e)))

          go : (b : Bool) → has_rowid id r ≡ b → count_of id rs ≤ 1 → (((m : ℤ) → int_cmp h.0 m ≡ Less → int_cmp id m ≡ Less) → count_of id rs ≡ 0) → count_of id (r ∷ rs) ≤ 1
          go true e more none =
              let rest = none (λ m k. ap (λ x. int_cmp x m) (tie e) ∙ k) in
              let here : unit_if (has_rowid id r) ≡ 1 = ap unit_if e in
              let all = counted id r rs in omega (arith, all, here, rest)
          go false e more none = let here : unit_if (has_rowid id r) ≡ 0 = ap unit_if e in let all = counted id r rs in omega (arith, all, here, more)
