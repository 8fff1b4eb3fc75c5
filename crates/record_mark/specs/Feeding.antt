-- What `feed` answers.
use Rattle.std.specs.Prelude.{ℕ, Bool, true, false, List, [], Result, Ok, Err}
use Rattle.std.specs.declared.vec.Vec.{Vec}
use Rattle.record_mark.specs.declared.assembler.MarkError.{MarkError}
use Rattle.record_mark.specs.declared.assembler.MarkError.TheVariants.{Starved, RecordTooLong}

module _ {Z : Type 0} where
  abbrev pub is_starved : Result (Vec (List ℕ) Z) MarkError → Bool
  is_starved (Ok records) = false
  is_starved (Err Starved) = true
  is_starved (Err (RecordTooLong records)) = false

  abbrev pub is_too_long : Result (Vec (List ℕ) Z) MarkError → Bool
  is_too_long (Ok records) = false
  is_too_long (Err Starved) = false
  is_too_long (Err (RecordTooLong records)) = true

  abbrev pub records_in : Result (Vec (List ℕ) Z) MarkError → List (List ℕ)
  records_in (Ok records) = records.items
  records_in (Err Starved) = []
  records_in (Err (RecordTooLong records)) = records.items
