-- What a read brings, and what it is cut in.
use Rattle.std.specs.Prelude.{◌≡◌, ◌≢◌, ℕ, Bool, true, false, List, [], ◌++◌, take, Option, Some, None, Result, Ok, Err}
use Rattle.std.specs.Io.KnownBytes.{IsAtEnd}
use Rattle.definitions.specs.Bytes.{Bytes}
use Rattle.record_mark.specs.Assembled.{Assembled, IsSplit}
use Rattle.record_mark.specs.declared.intake.ending.Ending.{Ending}
use Rattle.record_mark.specs.declared.intake.ending.Ending.TheVariants.{Over, Failed, TooLong, Closed, Starved}

-- the bytes of a read
abbrev pub heard : Result ℕ Ending → List ℕ → List ℕ
heard (Ok count) place = take count place
heard (Err ending) place = []

-- a stream that is over has no byte left
abbrev pub EndsSo : Result ℕ Ending → Option (List ℕ) → Type 0
EndsSo (Ok count) after = Unit {0}
EndsSo (Err Over) after = IsAtEnd after
EndsSo (Err Failed) after = Unit {0}
EndsSo (Err TooLong) after = ⊥
EndsSo (Err Closed) after = ⊥
EndsSo (Err Starved) after = ⊥

-- the piece was taken, and ends these records
pub record Fed (old : Assembled) (piece : List ℕ) (records : List Bytes) (fault : Bool) (new : Assembled) : Type 0 where
  pub split : IsSplit new
  pub received : new.received ≡ old.received ++ piece
  pub given : new.given ≡ old.given ++ records
  pub failed : new.failed ≡ fault

abbrev pub Cuts : Assembled → List ℕ → List Bytes → Option Ending → Assembled → Type 0
Cuts old piece records None new = Fed old piece records false new
Cuts old piece records (Some TooLong) new = Fed old piece records true new
Cuts old piece records (Some Starved) new = (new ≡ old) × (records ≡ []) × (piece ≢ [])
Cuts old piece records (Some Over) new = ⊥
Cuts old piece records (Some Failed) new = ⊥
Cuts old piece records (Some Closed) new = ⊥
