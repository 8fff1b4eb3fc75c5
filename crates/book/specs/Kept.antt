-- What a book keeps.
use Rattle.std.specs.Prelude.{ℕ, ◌+◌, ◌≤◌, ◌-◌, map, vec_len, vec_capacity}
use Rattle.std.specs.declared.vec.Vec.{Vec}
use Rattle.definitions.specs.Step.{State}
use Rattle.book.specs.declared.entry.TheConstants.{SEGMENT}
use Rattle.book.specs.declared.entry.Entry.{Entry}
use Rattle.book.specs.Notes.{view_of_entry}
use Rattle.book.specs.Journal.{Journal, IsLegal}

-- the journal that lies between two states, whose newest entry has this number
abbrev pub journal_of : {Z : Type 0} → ℕ → State → Vec Entry Z → State → Journal
journal_of newest base entries end = record { first = newest + 1 - vec_len entries; base = base; notes = map view_of_entry entries.items; end = end }

-- it is legal, there is room for a whole segment, and the numbers fit
pub record IsKept {Z : Type 0} (newest : ℕ) (base : State) (entries : Vec Entry Z) (end : State) : Type 0 where
  pub legal : IsLegal (journal_of newest base entries end)
  pub room : SEGMENT ≤ vec_capacity entries
  pub few : vec_len entries ≤ SEGMENT
  pub numbers : vec_len entries ≤ newest
