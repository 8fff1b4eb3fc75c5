-- What a reader has left after a read that may fail.
use Rattle.std.specs.Prelude.{◌≡◌, ◌+◌, ◌≤◌, List, length, take, ℕ, Option, Some, None, Result, Ok, Err}
use Rattle.std.specs.Io.KnownBytes.{Keeps, Consumes, IsAtEnd}

-- so many bytes at the front of the place are a piece of what is left to read, none only at its end; or the read failed, and what is left stays
abbrev pub ReadsPiece : {E : Type 0} → Option (List ℕ) → Option (List ℕ) → Result ℕ E → List ℕ → Type 0
ReadsPiece old new (Ok count) place = (count ≤ length place) × Consumes old new (take count place) × (count ≡ 0 → IsAtEnd new)
ReadsPiece old new (Err failed) place = Keeps old new

-- of what was left to read, where that is known, at most so many bytes were taken
abbrev pub TakesAtMost : ℕ → Option (List ℕ) → Option (List ℕ) → Type 0
TakesAtMost most None new = Unit {0}
TakesAtMost most (Some old) None = ⊥
TakesAtMost most (Some old) (Some new) = length old ≤ most + length new
