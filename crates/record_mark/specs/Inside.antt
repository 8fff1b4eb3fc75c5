-- What an `Assembler` keeps.
use Rattle.std.specs.Prelude.{Bool, true, false, ℕ, List}
use Rattle.record_mark.specs.Stream.{Reads, IsUnfinished, Splits}
use Rattle.record_mark.specs.Assembled.{Assembled}
use Rattle.record_mark.specs.declared.assembler.Assembler.TheInside.{Inside}

abbrev pub view_of_assembler : Inside → Assembled
view_of_assembler a = record { received = a.received.items; given = a.given.items; failed = a.failed }

-- the bytes lead to a part of a record
pub record IsWaiting (received : List ℕ) (given : List (List ℕ)) (begun rest : List ℕ) : Type 0 where
  pub reads : Reads received given begun rest
  pub unfinished : IsUnfinished begun rest

abbrev pub Stands : Bool → List ℕ → List (List ℕ) → List ℕ → List ℕ → Type 0
Stands false received given begun rest = IsWaiting received given begun rest
Stands true received given begun rest = Splits received given true

abbrev pub IsKept : Inside → Type 0
IsKept a = Stands a.failed a.received.items a.given.items a.progress.begun.items a.progress.rest.items
