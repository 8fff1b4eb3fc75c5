-- The room of the journal.
use Rattle.std.specs.Prelude.{◌≡◌, ◌⊎◌, ℕ, zero, suc, ◌+◌, ◌-◌, ◌^◌, min, Bool, true, false}
use Rattle.book.specs.Journal.{Journal, Book, next_of, room_of, rotated_book}
use Rattle.daemon_core.specs.declared.event_outcome.EventOutcome.{EventOutcome}
use Rattle.daemon_core.specs.declared.event_outcome.EventOutcome.TheVariants.{Applied, Starved, NoSegment}

-- for how many entries more the segment that stands has room, and the number of the next one
pub record Room : Type 0 where
  pub left : ℕ
  pub next : ℕ

abbrev pub room_of_journal : Journal → Room
room_of_journal j = record { left = room_of j; next = next_of j }

-- the segment stands; or it is full, and a fresh one begins
abbrev pub BeginsWhereFull : Book → Book → Type 0
BeginsWhereFull old new = (new ≡ old) ⊎ ((room_of old.journal ≡ 0) × (new ≡ rotated_book old))

-- what the segment that stands has left or, where it is full, a fresh one: 2^64 - 1 entries have a number
abbrev pub left_for : ℕ → ℕ → ℕ
left_for zero next = min 1024 (2 ^ 64 - next)
left_for (suc left) next = suc left

-- one entry is made
abbrev pub TakesRoom : Room → Room → Type 0
TakesRoom old new = (new.left + 1 ≡ left_for old.left old.next) × (new.next ≡ old.next + 1)

-- an event that needs an entry makes one, and no other does
abbrev pub TakesIfNeeded : Bool → Room → Room → Type 0
TakesIfNeeded true old new = TakesRoom old new
TakesIfNeeded false old new = new ≡ old

-- an event has no segment only where the one that stands is full
abbrev pub RoomAfter : EventOutcome → Bool → Room → Room → Type 0
RoomAfter NoSegment needed old new = (old.left ≡ 0) × (new ≡ old)
RoomAfter Applied needed old new = TakesIfNeeded needed old new
RoomAfter Starved needed old new = TakesIfNeeded needed old new
