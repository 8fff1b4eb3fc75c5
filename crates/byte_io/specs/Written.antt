-- What a writer holds after a write that may fail.
use Rattle.std.specs.Prelude.{◌≡◌, List, ℕ, ◌++◌, Option, Result, Ok, Err}
use Rattle.std.specs.Io.KnownBytes.{Appends}

-- a front of the bytes was appended
pub record WroteFront (old new : Option (List ℕ)) (bytes : List ℕ) : Type 0 where
  pub front : List ℕ
  pub rest : List ℕ
  pub parts : front ++ rest ≡ bytes
  pub appends : Appends old new front

-- all the bytes were appended, or a front of them and the write failed
abbrev pub Wrote : {E : Type 0} → Option (List ℕ) → Option (List ℕ) → Result (Unit {0}) E → List ℕ → Type 0
Wrote old new (Ok done) bytes = Appends old new bytes
Wrote old new (Err fault) bytes = WroteFront old new bytes
