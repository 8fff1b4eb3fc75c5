-- Rows that are put in their places, the last first.
use Rattle.std.proofs.Common.{ℕ, ◌≡◌, ◌≤◌, ◌<◌, ◌+◌, Bool, true, false, not, ◌&&◌, leb, List, [], ◌∷◌, ◌++◌, length, refl, ap, arith}
use Rattle.std.proofs.lemmas.Bool.Decides.{nat_tests}
use Rattle.std.specs.declared.cmp.Ordering.{Ordering}
use Rattle.std.specs.declared.cmp.Ordering.TheVariants.{Less, Equal, Greater}
use Rattle.definitions.specs.Bytes.{list_with, placed_list, in_order}
use Rattle.hosts_db.specs.Places.{put_all}

module _ {X : Type 0} (cmp : X → X → Ordering) where
  pub put_all_last : (xs : List X) (x : X) (more : List X) → put_all cmp (xs ++ x ∷ []) more ≡ put_all cmp xs (list_with cmp x more)
  put_all_last [] x more = refl
  put_all_last (y ∷ ys) x more = ap (list_with cmp y) (put_all_last ys x more)

  pub put_all_none : (xs : List X) → put_all cmp xs [] ≡ in_order cmp xs
  put_all_none [] = refl
  put_all_none (x ∷ xs) = ap (list_with cmp x) (put_all_none xs)

  pub put_most : (x : X) (xs : List X) → length (list_with cmp x xs) ≤ length xs + 1
  put_most x [] = omega arith
  put_most x (y ∷ ys) = go (cmp x y) (put_most x ys)
    where
      go : (o : Ordering) → length (list_with cmp x ys) ≤ length ys + 1 → length (placed_list o x y ys (list_with cmp x ys)) ≤ length (y ∷ ys) + 1
      go Less h = omega arith
      go Equal h = omega arith
      go Greater h = omega (arith, h)

pub not_past : (b : Bool) (count most : ℕ) → count < most → (not b && leb most count) ≡ false
not_past true count most h = refl
not_past false count most h = grind (arith, nat_tests, h)
