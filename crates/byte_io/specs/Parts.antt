-- The parts of bytes that are cut at a byte.
use Rattle.std.specs.Prelude.{ℕ, eqb, List, [], Option, Some, None}
use Rattle.std.specs.Borrow.{Bor}
use Rattle.std.specs.List.{slice_split}

-- what stands before, between and behind these bytes
abbrev pub parts_at : ℕ → List ℕ → List (List ℕ)
parts_at byte bytes = slice_split (λ b. eqb b byte) bytes

-- behind the last of these bytes
abbrev pub parts_left : ℕ → Option (Bor (List ℕ)) → List (List ℕ)
parts_left byte None = []
parts_left byte (Some bytes) = parts_at byte bytes.now
