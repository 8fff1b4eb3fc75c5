-- Bytes on their way to a writer, which gets them a block at a time.
use Rattle.std.specs.Prelude.{◌≡◌, List, ℕ, ◌++◌, Option, Result, Ok, Err}
use Rattle.std.specs.Io.KnownBytes.{Appends}
use Rattle.byte_io.specs.Written.{WroteFront}

-- a front of the bytes was appended, and the rest waits
pub record WroteAllBut (old new : Option (List ℕ)) (waiting bytes : List ℕ) : Type 0 where
  pub front : List ℕ
  pub parts : front ++ waiting ≡ bytes
  pub appends : Appends old new front

-- all bytes but those that wait were appended, or a front of them and the write failed
abbrev pub Passed : {E : Type 0} → Option (List ℕ) → Option (List ℕ) → Result (Unit {0}) E → List ℕ → List ℕ → Type 0
Passed old new (Ok done) waiting bytes = WroteAllBut old new waiting bytes
Passed old new (Err fault) waiting bytes = WroteFront old new bytes
