-- What a `RecordQueue` keeps.
use Rattle.std.specs.Prelude.{◌≡◌, ℕ, ◌≤◌, Bool, true, false, List, [], ◌∷◌, length}
use Rattle.record_mark.specs.Stream.{Splits}
use Rattle.record_mark.specs.Assembled.{Assembled}
use Rattle.record_mark.specs.Received.{ReceivedBytes}
use Rattle.record_mark.specs.Untaken.{untaken_records, flags_with}
use Rattle.record_mark.specs.declared.record_queue.RecordQueue.TheInside.{Inside}

-- the flags after these were taken, each counted among those that were left
abbrev pub flags_from : List Bool → List ℕ → List Bool
flags_from flags [] = flags
flags_from flags (i ∷ is) = flags_from (flags_with flags i) is

abbrev pub view_of_record_queue : Inside → ReceivedBytes
view_of_record_queue c = record { received = c.received.items; taken = flags_from [] c.takes.items; receives = c.receives }

-- while bytes are received, the assembler took them all
abbrev pub IsInStep : Bool → Assembled → List ℕ → List (List ℕ) → Type 0
IsInStep true a received records = (a.received ≡ received) × (a.given ≡ records)
IsInStep false a received records = Unit {0}

pub record IsQueue (c : Inside) : Type 0 where
  pub fault : Bool
  pub splits : Splits c.received.items c.given.items fault
  pub few : length (flags_from [] c.takes.items) ≤ length c.given.items
  pub queue : c.queue.items ≡ untaken_records c.given.items (flags_from [] c.takes.items)
  pub in_step : IsInStep c.receives c.assembler c.received.items c.given.items
