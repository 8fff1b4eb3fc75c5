-- What the lock keeps, and what one hold of it does.
use Rattle.std.specs.Prelude.{◌≡◌, ◌≢◌, ◌⊎◌, ℕ, ◌+◌, Bool, cond, Option, Some, None, List, [], ◌∷◌, ◌++◌}
use Rattle.definitions.specs.Bytes.{Bytes}
use Rattle.definitions.specs.Hosts.{Hosts, StoreAnswer, Yes}
use Rattle.definitions.specs.World.{Rules}
use Rattle.definitions.specs.Step.{State, Completion, Applied, Starved, Nothing, opening_state_with}
use Rattle.book.specs.Given.{StepResult, comes_to}
use Rattle.book.specs.Notes.{JournalEvent, BeginsAnew, Note, is_take}
use Rattle.book.specs.Receipts.{newest_note}
use Rattle.book.specs.Journal.{Journal, Book, empty_journal, room_of, rotated_book, Enters}
use Rattle.book.specs.Histories.{notes_of, Join, AreLegal, joined_journal, IsHistory, BeginsWithRestart}
use Rattle.workers.specs.declared.beginning.NotBegun.{NotBegun}
use Rattle.workers.specs.declared.beginning.NotBegun.TheVariants as not_begun

-- the journals of the segments that are closed, in order, and the book with its open one; and whether closed segments are kept
pub record Held : Type 0 where
  pub closed : List Journal
  pub book : Book
  pub keeps : Bool

-- how many of the entries took a record
abbrev pub takes_in : List Note → ℕ
takes_in [] = 0
takes_in (n ∷ notes) = cond (is_take n.event) 1 0 + takes_in notes

abbrev pub takes_of : List Journal → ℕ
takes_of [] = 0
takes_of (j ∷ journals) = takes_in j.notes + takes_of journals

-- the segments are one history from the opening state of a name, of rules and of the store's rows: numbers begin with 1, each segment is
-- legal, and the first entry is a restart that the store agreed to
pub record IsOneHistory (journals : List Journal) : Type 0 where
  pub name : Bytes
  pub rules : Rules
  pub hosts : Hosts
  pub joined : Join (opening_state_with name rules hosts) 1 journals
  pub legal : AreLegal journals
  pub restart : BeginsWithRestart (notes_of journals)

-- the total is the number of calls that all segments took, the closed ones and the last, which are one history
pub record IsInStep (total : ℕ) (closed : List Journal) (last : Journal) : Type 0 where
  pub counted : total ≡ takes_of closed + takes_in last.notes
  pub history : IsOneHistory (closed ++ last ∷ [])

-- the open segment is closed, and a fresh one begins where it ends
abbrev pub rotated_held : Held → Held
rotated_held h = record { closed = h.closed ++ h.book.journal ∷ []; book = rotated_book h.book; keeps = h.keeps }

-- the state before the first entry
abbrev pub base_of : List Journal → Journal → State
base_of [] last = last.base
base_of (j ∷ journals) last = j.base

-- all that the book went through, closed segments and the open one, as one journal
abbrev pub history_of : Held → Journal
history_of held = joined_journal (base_of held.closed held.book.journal) 1 held.closed held.book.journal

-- it is a history from the opening state of a name, of rules and of the store's rows, and its first entry is a restart that the store agreed to
pub record IsServed (held : Held) : Type 0 where
  pub name : Bytes
  pub rules : Rules
  pub hosts : Hosts
  pub history : IsHistory name rules hosts (history_of held)
  pub restart : BeginsWithRestart (history_of held).notes

-- ---- the beginning

-- an empty journal whose first number is 1, in the opening state of a name, of rules and of the store's rows
abbrev pub IsNew : Journal → Type 0
IsNew j = j ≡ empty_journal 1 (opening_state_with j.base.world.own_name j.base.world.rules j.base.world.hosts)

-- the book has one entry more: a restart that the store agreed to
pub record Begins (book : Book) (is_kept : Bool) (new : Held) : Type 0 where
  pub closed : new.closed ≡ []
  pub keeps : new.keeps ≡ is_kept
  pub enters : Enters book BeginsAnew (comes_to Applied Yes Nothing) new.book

-- why a restart was not made, if it was not
abbrev pub IsWhy : Option NotBegun → StepResult → Type 0
IsWhy None step_result = (step_result.completion ≡ Applied) × (step_result.store ≡ Yes)
IsWhy (Some not_begun.Starved) step_result = step_result.completion ≡ Starved
IsWhy (Some not_begun.StoreRefused) step_result = (step_result.completion ≡ Applied) × (step_result.store ≢ Yes)

-- a restart of this book comes to no more than that
abbrev pub BeginsNot : Book → NotBegun → Type 0
BeginsNot book why = (step_result : StepResult) × ((new : Book) × (Enters book BeginsAnew step_result new × IsWhy (Some why) step_result))

-- ---- holds

-- nothing happened, but perhaps a segment that was full was closed
abbrev pub Rests : Held → Held → Type 0
Rests old new = (new ≡ old) ⊎ ((room_of old.book.journal ≡ 0) × (new ≡ rotated_held old))

-- one event was one entry, the newest, and nothing else happened, but perhaps that a full segment was closed before it
pub record Notes (old : Held) (event : JournalEvent) (step_result : StepResult) (new : Held) : Type 0 where
  pub before : Held
  pub rests : Rests old before
  pub closed : new.closed ≡ before.closed
  pub keeps : new.keeps ≡ before.keeps
  pub enters : Enters before.book event step_result new.book

abbrev pub entry_of : ℕ → JournalEvent → StepResult → Note
entry_of number event step_result = record { number = number; event = event; step_result = step_result }

-- this entry is the journal's newest, and a trace has it behind those that it had, and no other
pub record Adds (held : Held) (entry : Note) (old new : List Note) : Type 0 where
  pub is_newest : newest_note held.book.journal.notes ≡ Some entry
  pub added : new ≡ old ++ entry ∷ []
