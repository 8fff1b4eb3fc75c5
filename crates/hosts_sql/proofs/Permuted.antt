-- Maps from the same entries in another order.
use Rattle.std.proofs.Common.{◌≡◌, ◌<◌, ℕ, zero, suc, List, [], ◌∷◌, ◌++◌, map, length, Bool, true, false, cond, None, Some, Option, is_some, refl, sym, ap, subst, ◌∙◌, arith, append-nil, append_assoc, slice_index_or}
use Rattle.std.specs.declared.cmp.Ordering.{Ordering}
use Rattle.std.specs.Ordering.{eq_by_cmp}
use Rattle.std.specs.Cmp.{IsTotalOrder, eq_by_cmp_equiv}
use Rattle.std.specs.List.{Contains}
use Rattle.std.specs.List.Sorted.{IsPermutation}
use Rattle.std.proofs.lemmas.List.Sorted.{Contains-permutation, IsPermutation-map, list_any-IsPermutation}
use Rattle.std.specs.FinMap.{FinMap, IsAntisymmetric, find, empty, from_entries, get-from_entries, same_map, from_entries_push}
use Rattle.std.specs.FinMap.Entries.{is_some-find, find-append}
use Rattle.definitions.proofs.Lists.{none_from_is_some}
use Rattle.sqlite_value.specs.Order.{Row}
use Rattle.hosts_sql.specs.Reading.{AreApart, KeepsAll}
use Rattle.hosts_sql.proofs.PutLemmas.{missed, missed_later}

same_some : {X : Type 0} (x y : X) → ◌≡◌ {A = Option X} (Some x) (Some y) → x ≡ y
same_some x y e = cc

not_both : {X : Type 0} {x : X} {o : Option X} → o ≡ None → o ≡ Some x → ⊥
not_both none some = let e = sym none ∙ some in absurd cc

module _ {K X : Type 0} {R : K → K → Ordering} (o : IsTotalOrder R) where
  -- an entry that is there is found
  found_at : (ys : List (K × X)) → AreApart R ys → (k : ℕ) → k < length ys → (e : K × X) → slice_index_or ys k e ≡ e → (q : K) → eq_by_cmp R q e.0 ≡ true → find R q ys ≡ Some e.1
  found_at [] apart k low e is q tie = absurd (omega (arith, low))
  found_at (y ∷ ys) apart zero low e is q tie = ap (λ (z : K × X). cond (eq_by_cmp R q z.0) (Some z.1) (find R q ys)) is ∙ rw tie
  found_at (y ∷ ys) apart (suc k) low e is q tie =
      let rest : (p : K) → eq_by_cmp R p e.0 ≡ true → find R p ys ≡ Some e.1 = λ p same. found_at ys apart.1 k (omega (arith, low)) e is p same in
      let cases : (b : Bool) → eq_by_cmp R q y.0 ≡ b → cond b (Some y.1) (find R q ys) ≡ Some e.1 = elim [
        | true ↦ λ same. absurd (not_both apart.0 (rest y.0 (sym ((eq_by_cmp_equiv o).congr q y.0 e.0 same) ∙ tie)))
        | false ↦ λ _. rest q tie
      ] in
      cases (eq_by_cmp R q y.0) refl

  -- what is found is there
  there : (xs : List (K × X)) (q : K) (v : X) → find R q xs ≡ Some v → (e : K × X) × Contains xs e × (eq_by_cmp R q e.0 ≡ true) × (e.1 ≡ v)
  there [] q v h = absurd cc
  there (x ∷ xs) q v h =
      let cases : (b : Bool) → eq_by_cmp R q x.0 ≡ b → cond b (Some x.1) (find R q xs) ≡ Some v → (e : K × X) × Contains (x ∷ xs) e × (eq_by_cmp R q e.0 ≡ true) × (e.1 ≡ v) = elim [
        | true ↦ λ tie some. (x, (0, omega arith, refl), tie, same_some x.1 v some)
        | false ↦ λ _ some. let more = there xs q v some in (more.0, (suc more.1.0, omega (arith, more.1.1), more.1.2), more.2, more.3)
      ] in
      cases (eq_by_cmp R q x.0) refl h

  same_found : (xs ys : List (K × X)) → IsPermutation xs ys → AreApart R ys → (q : K) → find R q xs ≡ find R q ys
  same_found xs ys moved apart q =
      let keys = list_any-IsPermutation (eq_by_cmp R q) (map (λ (e : K × X). e.0) xs) (map (λ (e : K × X). e.0) ys) (IsPermutation-map (λ (e : K × X). e.0) xs ys moved) in
      let both : is_some (find R q xs) ≡ is_some (find R q ys) = is_some-find R q xs ∙ keys ∙ sym (is_some-find R q ys) in
      let cases : (r : Option X) → find R q xs ≡ r → r ≡ find R q ys = elim [
        | None ↦ λ none. sym (none_from_is_some (find R q ys) (sym both ∙ ap is_some none))
        | Some v ↦ λ some.
            let e = there xs q v some in
            let at = Contains-permutation xs ys e.0 moved e.1 in sym (found_at ys apart at.0 at.1 e.0 at.2 q e.2 ∙ ap Some e.3)
      ] in
      cases (find R q xs) refl

  -- a map does not depend on the order of its entries
  pub same_entries : IsAntisymmetric R → (xs ys : List (K × X)) → IsPermutation xs ys → AreApart R ys → from_entries {R = R} xs ≡ from_entries ys
  same_entries same xs ys moved apart = same_map o same _ _ (λ q. get-from_entries o xs q ∙ same_found xs ys moved apart q ∙ sym (get-from_entries o ys q))

  apart_push : (es : List (K × X)) (k : K) (v : X) → AreApart R es → find R k es ≡ None → AreApart R (es ++ (k, v) ∷ [])
  apart_push [] k v apart none = (refl, tt)
  apart_push (e ∷ es) k v apart none =
      let differ = missed (eq_by_cmp R k e.0) e.1 (find R k es) none in
      let later = missed_later (eq_by_cmp R k e.0) e.1 (find R k es) none in
      let other : eq_by_cmp R e.0 k ≡ false = (eq_by_cmp_equiv o).symm e.0 k ∙ differ in
      (find-append R o es k v e.0 later ∙ ap (λ b. cond b (Some v) (find R e.0 es)) other ∙ apart.0, apart_push es k v apart.1 later)

-- rows that were inserted one by one
module _ {K X : Type 0} {R : K → K → Ordering} (o : IsTotalOrder R) (same : IsAntisymmetric R) (f : Row → K × X) where
  kept_all : (done : List (K × X)) (rows : List Row) (after : FinMap R X) → AreApart R done → KeepsAll f (from_entries done) rows after → (after ≡ from_entries (done ++ map f rows)) × AreApart R (done ++ map f rows)
  kept_all done [] after apart h = (h ∙ ap from_entries (sym (append-nil done)), subst (AreApart R) (sym (append-nil done)) apart)
  kept_all done (row ∷ rows) after apart h =
      let k = (f row).0 in
      let v = (f row).1 in
      let none : find R k done ≡ None = sym (get-from_entries o done k) ∙ h.0 in
      let push = from_entries_push o same done k v none in
      let rest = kept_all (done ++ (k, v) ∷ []) rows after (apart_push o done k v apart none) (subst (λ m. KeepsAll f m rows after) (sym push) h.1) in
      let joined : (done ++ (k, v) ∷ []) ++ map f rows ≡ done ++ (k, v) ∷ map f rows = append_assoc done ((k, v) ∷ []) (map f rows) in
      (rest.0 ∙ ap from_entries joined, subst (AreApart R) joined rest.1)

  pub keeps_rows : (rows : List Row) (after : FinMap R X) → KeepsAll f empty rows after → (after ≡ from_entries (map f rows)) × AreApart R (map f rows)
  keeps_rows rows after h = kept_all [] rows after tt h
