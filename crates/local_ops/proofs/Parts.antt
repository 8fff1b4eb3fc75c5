-- Parts that are joined.
use Rattle.std.proofs.Common.{◌≡◌, ℕ, zero, suc, ◌+◌, ◌<◌, ◌≤◌, List, [], ◌∷◌, ◌++◌, length, get_or, take, arith, length-append, ap, ◌∙◌}
use Rattle.std.proofs.lemmas.List.{take_all}
use Rattle.std.specs.List.{flat_map}

-- the parts up to one, and that one, are no longer than all of them
pub length-parts-upto : {X : Type 0} (f : X → List ℕ) (xs : List X) (i : ℕ) (d : X) → i < length xs
    → length (flat_map f (take i xs)) + length (f (get_or xs i d)) ≤ length (flat_map f xs)
length-parts-upto f [] i d h = absurd (omega arith)
length-parts-upto f (x ∷ xs) zero d h = omega (arith, length-append (f x) (flat_map f xs))
length-parts-upto f (x ∷ xs) (suc i) d h =
    omega (arith, length-append (f x) (flat_map f xs), length-append (f x) (flat_map f (take i xs)), length-parts-upto f xs i d (omega arith))

pub fits_so_far : (old new front part all : List ℕ) → new ≡ old ++ front → length front + length part ≤ length all → length old + length all ≤ 4096
    → length new + length part ≤ 4096
fits_so_far old new front part all e upto fits = omega (arith, ap length e ∙ length-append old front)

pub parts_are_all : {X : Type 0} (f : X → List ℕ) (old new : List ℕ) (xs : List X) (i : ℕ) → new ≡ old ++ flat_map f (take i xs) → length xs ≤ i
    → length new ≡ length old + length (flat_map f xs)
parts_are_all {X = X} f old new xs i e past =
    ap length e ∙ (length-append old (flat_map f (take i xs)) ∙ ap (λ (s : List X). length old + length (flat_map f s)) (take_all i xs past))
