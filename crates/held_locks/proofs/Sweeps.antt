-- What some of the numbers have is set to one value, number by number.
use Rattle.std.proofs.Common.{◌&&◌, ℕ, Bool, cond, ltb}

module _ {X : Type 0} (p : ℕ → Bool) (d : X) (old : ℕ → X) where
  -- those below i
  abbrev pub swept : ℕ → ℕ → X
  swept i k = cond (ltb k i && p k) d (old k)
