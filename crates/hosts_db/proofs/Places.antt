-- What a place in a list in order says of the words of the definitions.
use Rattle.std.proofs.Common.{◌≡◌, ◌<◌, ◌≤◌, ◌+◌, ℕ, zero, suc, Bool, true, false, cond, ◌||◌, List, [], ◌∷◌, length, get_or, set, refl, sym, ap, ◌∙◌, arith, Some, Result, Ok, Err}
use Rattle.std.proofs.lemmas.List.Sorted.{searchable_from_sorted}
use Rattle.std.specs.Cmp.{IsTotalOrder}
use Rattle.std.specs.List.{AllWithin, HoldsAt, insert}
use Rattle.std.specs.List.Sorted.{IsBinarySearchResult, IsSearchInRange}
use Rattle.std.specs.Ordering.{is_eq, is_lt, ordering_reverse}
use Rattle.std.specs.declared.cmp.Ordering.{Ordering}
use Rattle.std.specs.declared.cmp.Ordering.TheVariants.{Less, Equal, Greater}
use Rattle.definitions.specs.Bytes.{is_any, first_that, change_first, list_with, placed_list, IsBelowAll, IsAscending}
use Rattle.definitions.proofs.Orders.{above}
use Rattle.hosts_db.specs.Places.{IsPlace}

module _ {X : Type 0} (cmp : X → X → Ordering) (total : IsTotalOrder cmp) where
  below_at : (y : X) (ys : List X) → IsBelowAll cmp y ys → (k : ℕ) (d : X) → k < length ys → cmp y (get_or ys k d) ≡ Less
  below_at y [] h k d l = absurd (omega arith)
  below_at y (z ∷ zs) h zero d l = h.0
  below_at y (z ∷ zs) h (suc k) d l = below_at y zs h.1 k d (omega arith)

  less_back : (x y : X) → cmp x y ≡ Less → cmp y x ≡ Greater
  less_back x y e = total.antisymm y x ∙ ap ordering_reverse e

  equal_back : (x y : X) → cmp x y ≡ Equal → cmp y x ≡ Equal
  equal_back x y e = total.antisymm y x ∙ ap ordering_reverse e

  -- what is below an element that ties with x is below x
  below_tied : (y z x : X) → cmp y z ≡ Less → cmp z x ≡ Equal → cmp y x ≡ Less
  below_tied y z x e t = above cmp total x y (sym (total.congr z x y t) ∙ less_back y z e)

  sorted_from : (xs : List X) → IsAscending cmp xs → (k : ℕ) (d : X) → k + 1 < length xs → is_lt (cmp (get_or xs (k + 1) d) (get_or xs k d)) ≡ false
  sorted_from [] h k d l = absurd (omega arith)
  sorted_from (y ∷ ys) h zero d l = ap is_lt (less_back y (get_or ys 0 d) (below_at y ys h.0 0 d (omega arith)))
  sorted_from (y ∷ ys) h (suc k) d l = let e : suc k + 1 ≡ suc (k + 1) = omega arith in rw e (sorted_from ys h.1 k d (omega arith))

  pub place_from_search : (x : X) (xs : List X) (r : Result ℕ ℕ) → IsAscending cmp xs → IsSearchInRange r (length xs) → IsBinarySearchResult (λ y. cmp y x) xs r → IsPlace cmp x xs r
  place_from_search x xs (Ok at) h range found = record { inside = range; ties = found }
  place_from_search x xs (Err at) h range found =
      let parts = found (searchable_from_sorted total (λ y. y) xs x (λ k d _ l. sorted_from xs h k d l)) in
      record { inside = range; below = parts.0; above = parts.1 }

  module _ (x : X) (p : X → Bool) (agrees : (y : X) → p y ≡ is_eq (cmp y x)) where
    -- an element before one that ties with x doesn't pass
    fails_before : (y : X) (ys : List X) (at : ℕ) → IsBelowAll cmp y ys → at < length ys → HoldsAt (λ z. cmp z x ≡ Equal) ys at → cmp y x ≡ Less
    fails_before y ys at h l ties = below_tied y (get_or ys at y) x (below_at y ys h at y l) (ties y)

    fails : (y : X) → cmp y x ≡ Less → p y ≡ false
    fails y e = agrees y ∙ ap is_eq e

    pub any_at : (xs : List X) (at : ℕ) → at < length xs → HoldsAt (λ z. cmp z x ≡ Equal) xs at → is_any p xs ≡ true
    any_at [] at l ties = absurd (omega arith)
    any_at (y ∷ ys) zero l ties = ap (λ b. b || is_any p ys) (agrees y ∙ ap is_eq (ties y))
    any_at (y ∷ ys) (suc at) l ties = go (p y) (any_at ys at (omega arith) ties)
      where
        go : (b : Bool) → is_any p ys ≡ true → (b || is_any p ys) ≡ true
        go true h = refl
        go false h = h

    pub first_at : (xs : List X) (at : ℕ) (d : X) → IsAscending cmp xs → at < length xs → HoldsAt (λ z. cmp z x ≡ Equal) xs at → first_that p xs ≡ Some (get_or xs at d)
    first_at [] at d h l ties = absurd (omega arith)
    first_at (y ∷ ys) zero d h l ties = ap (λ b. cond b (Some y) (first_that p ys)) (agrees y ∙ ap is_eq (ties y))
    first_at (y ∷ ys) (suc at) d h l ties =
        ap (λ b. cond b (Some y) (first_that p ys)) (fails y (fails_before y ys at h.0 (omega arith) ties)) ∙ first_at ys at d h.1 (omega arith) ties

    pub change_at : (g : X → X) (xs : List X) (at : ℕ) (d : X) → IsAscending cmp xs → at < length xs → HoldsAt (λ z. cmp z x ≡ Equal) xs at → change_first p g xs ≡ set xs at (g (get_or xs at d))
    change_at g [] at d h l ties = absurd (omega arith)
    change_at g (y ∷ ys) zero d h l ties = ap (λ b. cond b (g y ∷ ys) (y ∷ change_first p g ys)) (agrees y ∙ ap is_eq (ties y))
    change_at g (y ∷ ys) (suc at) d h l ties =
        ap (λ b. cond b (g y ∷ ys) (y ∷ change_first p g ys)) (fails y (fails_before y ys at h.0 (omega arith) ties)) ∙ ap (λ zs. y ∷ zs) (change_at g ys at d h.1 (omega arith) ties)

    pub put_at : (xs : List X) (at : ℕ) → IsAscending cmp xs → at < length xs → HoldsAt (λ z. cmp z x ≡ Equal) xs at → list_with cmp x xs ≡ set xs at x
    put_at [] at h l ties = absurd (omega arith)
    put_at (y ∷ ys) zero h l ties = ap (λ o. placed_list o x y ys (list_with cmp x ys)) (equal_back y x (ties y))
    put_at (y ∷ ys) (suc at) h l ties =
        ap (λ o. placed_list o x y ys (list_with cmp x ys)) (less_back y x (fails_before y ys at h.0 (omega arith) ties)) ∙ ap (λ zs. y ∷ zs) (put_at ys at h.1 (omega arith) ties)

    -- ---- where none ties with x

    later : (P : X → Type 0) (y : X) (ys : List X) (low high : ℕ) → AllWithin P (y ∷ ys) (suc low) (suc high) → AllWithin P ys low high
    later P y ys low high h k d l u = h (suc k) d (omega arith) (omega arith)

    fails_above : (y : X) → cmp y x ≡ Greater → p y ≡ false
    fails_above y e = agrees y ∙ ap is_eq e

    none_above : (xs : List X) → AllWithin (λ y. cmp y x ≡ Greater) xs 0 (length xs) → is_any p xs ≡ false
    none_above [] h = refl
    none_above (y ∷ ys) h = ap (λ b. b || is_any p ys) (fails_above y (h 0 y (omega arith) (omega arith))) ∙ none_above ys (λ k d l u. h (suc k) d (omega arith) (omega arith))

    pub none_gap : (xs : List X) (at : ℕ) → at ≤ length xs → AllWithin (λ y. cmp y x ≡ Less) xs 0 at → AllWithin (λ y. cmp y x ≡ Greater) xs at (length xs) → is_any p xs ≡ false
    none_gap xs zero l b a = none_above xs a
    none_gap [] (suc at) l b a = refl
    none_gap (y ∷ ys) (suc at) l b a =
        ap (λ t. t || is_any p ys) (fails y (b 0 y (omega arith) (omega arith)))
        ∙ none_gap ys at (omega arith) (λ k d u v. b (suc k) d (omega arith) (omega arith)) (λ k d u v. a (suc k) d (omega arith) (omega arith))

    pub put_gap : (xs : List X) (at : ℕ) → at ≤ length xs → AllWithin (λ y. cmp y x ≡ Less) xs 0 at → AllWithin (λ y. cmp y x ≡ Greater) xs at (length xs) → list_with cmp x xs ≡ insert xs at x
    put_gap [] zero l b a = refl
    put_gap (y ∷ ys) zero l b a = ap (λ o. placed_list o x y ys (list_with cmp x ys)) (above cmp total y x (a 0 y (omega arith) (omega arith)))
    put_gap [] (suc at) l b a = absurd (omega arith)
    put_gap (y ∷ ys) (suc at) l b a =
        ap (λ o. placed_list o x y ys (list_with cmp x ys)) (less_back y x (b 0 y (omega arith) (omega arith)))
        ∙ ap (λ zs. y ∷ zs) (put_gap ys at (omega arith) (λ k d u v. b (suc k) d (omega arith) (omega arith)) (λ k d u v. a (suc k) d (omega arith) (omega arith)))
