-- A segment of the journal, and when it is legal.
use Rattle.std.specs.Prelude.{◌≡◌, ℕ, ◌+◌, ◌-◌, ◌^◌, ◌<◌, List, [], ◌∷◌, ◌++◌, length, min, Option, None, Some}
use Rattle.definitions.specs.Bytes.{Bytes}
use Rattle.definitions.specs.Outgoing.{Callback, next_due}
use Rattle.definitions.specs.Hosts.{NotAsked}
use Rattle.definitions.specs.World.{the_limits}
use Rattle.definitions.specs.Step.{State, Applied, Starved, Sends}
use Rattle.definitions.specs.Replay.{Entry, IsLegal as IsLegalFrom}
use Rattle.call_plans.specs.Planned.{refusal_count}
use Rattle.call_codec.specs.declared.records.dest.Dest.{Dest}
use Rattle.call_codec.specs.Dests.{view_of_dest}
use Rattle.book.specs.Given.{StepResult, comes_to, record_of}
use Rattle.book.specs.Notes.{Note, JournalEvent, Takes, SendsNext, HearsAnswer, AsksLine, FallsSilent, GraceEnds, BeginsAnew, Reads, Steps}

-- the number of the first entry, the state before it, what each notes, and the state after the last
pub record Journal : Type 0 where
  pub first : ℕ
  pub base : State
  pub notes : List Note
  pub end : State

-- a book: its journal, and how often the store refused
pub record Book : Type 0 where
  pub journal : Journal
  pub refusals : ℕ

pub record IsEntryOf (n : Note) (e : Entry) : Type 0 where
  pub number : e.number ≡ n.number
  pub event : Reads n.event e.done.event
  pub completion : e.done.completion ≡ n.step_result.completion
  pub store : e.done.store ≡ n.step_result.store
  pub given : e.given ≡ n.step_result.given

abbrev pub AreEntriesOf : List Note → List Entry → Type 0
AreEntriesOf [] entries = entries ≡ []
AreEntriesOf (n ∷ notes) [] = ⊥
AreEntriesOf (n ∷ notes) (e ∷ entries) = IsEntryOf n e × AreEntriesOf notes entries

-- with the readings of its records it is a legal history of the definitions
pub record IsLegal (j : Journal) : Type 0 where
  pub entries : List Entry
  pub are : AreEntriesOf j.notes entries
  pub legal : IsLegalFrom the_limits j.first j.base entries j.end

-- an empty journal
abbrev pub empty_journal : ℕ → State → Journal
empty_journal first s = record { first = first; base = s; notes = []; end = s }

-- the number of the next entry
abbrev pub next_of : Journal → ℕ
next_of j = j.first + length j.notes

-- for so many entries more there is room: 2^64 - 1 entries have a number
abbrev pub room_of : Journal → ℕ
room_of j = min (1024 - length j.notes) (2 ^ 64 - next_of j)

-- there is some while there are fewer entries, and a number is left
abbrev pub RoomLaw : Type 0
RoomLaw = (j : Journal) → length j.notes < 1024 → next_of j < 2 ^ 64 → 0 < room_of j

-- the segment ends, and the next one begins where it ends
abbrev pub rotated_book : Book → Book
rotated_book b = record b { journal = empty_journal (next_of b.journal) b.journal.end }

-- there is room as it stands; or the segment is full, and is closed, and the next one begins
abbrev pub MakesRoom : Book → Option Journal → Book → Type 0
MakesRoom old None new = new ≡ old
MakesRoom old (Some closed) new = (room_of old.journal ≡ 0) × (closed ≡ old.journal) × (new ≡ rotated_book old)

abbrev pub noted_journal : Journal → Note → State → Journal
noted_journal j n end = record j { notes = j.notes ++ n ∷ []; end = end }

-- only a record, a line and a restart take memory
abbrev pub TakesMemory : JournalEvent → Type 0
TakesMemory (Takes peer asked) = Unit {0}
TakesMemory (AsksLine l line) = Unit {0}
TakesMemory BeginsAnew = Unit {0}
TakesMemory SendsNext = ⊥
TakesMemory (HearsAnswer bytes) = ⊥
TakesMemory (FallsSilent number) = ⊥
TakesMemory GraceEnds = ⊥

-- one event is one entry, and one step of the definitions
pub record Enters (old : Book) (event : JournalEvent) (step_result : StepResult) (new : Book) : Type 0 where
  pub steps : Steps old.journal.end event step_result new.journal.end
  pub journal : new.journal ≡ noted_journal old.journal (record { number = next_of old.journal; event = event; step_result = step_result }) new.journal.end
  pub refusals : new.refusals ≡ refusal_count step_result.store old.refusals
  pub fed : step_result.completion ≡ Starved → TakesMemory event

-- the call that is due first is sent, with its number, to whom it is for, and its record; or none is due, and nothing happens
abbrev pub IsNext : Book → Option (ℕ × Dest × Bytes) → Book → Type 0
IsNext old None new = (next_due old.journal.end.world.calls ≡ None) × (new ≡ old)
IsNext old (Some (number, to, bytes)) new =
    (callback : Callback) × (view_of_dest to ≡ callback.to) × (bytes ≡ record_of (Sends number callback))
    × Enters old SendsNext (comes_to Applied NotAsked (Sends number callback)) new
