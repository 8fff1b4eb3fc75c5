-- An index of a list by file: places, those of one file together and in order.
use Rattle.std.specs.Prelude.{◌≡◌, ◌<◌, ◌-◌, ℕ, Bool, zero, suc, true, false, not, cond, eqb, ltb, List, [], ◌∷◌, ◌++◌, length, map, slice_index_or}
use Rattle.std.specs.List.{AllByRecursion, filter}
use Rattle.std.specs.List.Sorted.{IsPartitionPoint}
use Rattle.std.specs.Ordering.{is_gt}
use Rattle.definitions.specs.Bytes.{Bytes, same_bytes}
use Rattle.range_table.specs.File.{file_cmp}
use Rattle.blocked_list.specs.Waiting.{Waiting}

-- the file that the waiter at this place waits for
abbrev pub file_at : List Waiting → ℕ → Bytes
file_at ws p = slice_index_or (map (λ (w : Waiting). w.wanted.file) ws) p []

-- the numbers below n, in order
abbrev pub below : ℕ → List ℕ
below zero = []
below (suc n) = below n ++ n ∷ []

-- the places of this file
abbrev pub places_of : (ℕ → Bytes) → Bytes → List ℕ → List ℕ
places_of file f ps = filter (λ p. same_bytes (file p) f) ps

-- no place stands before one of a lesser file
abbrev pub AreByFile : (ℕ → Bytes) → List ℕ → Type 0
AreByFile file [] = Unit {0}
AreByFile file (p ∷ ps) = AllByRecursion (λ q. is_gt (file_cmp (file p) (file q)) ≡ false) ps × AreByFile file ps

-- the test holds of the first so many places, and of no other
abbrev pub IsPoint : (ℕ → Bool) → List ℕ → ℕ → Type 0
IsPoint test ps at = IsPartitionPoint (λ p. test p ≡ true) (λ p. test p ≡ false) ps at

-- each place below n stands in it once
pub record IsIndex (file : ℕ → Bytes) (n : ℕ) (ps : List ℕ) : Type 0 where
  pub within : AllByRecursion (λ p. p < n) ps
  pub many : length ps ≡ n
  pub by_file : AreByFile file ps
  pub in_order : (f : Bytes) → places_of file f ps ≡ places_of file f (below n)

-- where one stands once the place p is gone
abbrev pub moved_up : ℕ → ℕ → ℕ
moved_up p q = cond (ltb p q) (q - 1) q

-- the places but p, each one less that is behind it
abbrev pub without_place : ℕ → List ℕ → List ℕ
without_place p ps = map (moved_up p) (filter (λ q. not (eqb q p)) ps)
