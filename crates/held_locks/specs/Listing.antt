-- All runs by number, in the order of their owners.
use Rattle.std.specs.Prelude.{List}
use Rattle.owner_ids.specs.Names.{names_of_owners, number_cmp}
use Rattle.held_locks.specs.Stands.{Stands}
use Rattle.range_table.specs.Settings.{AreRuns, Held as NumberHeld}
use Rattle.range_table.specs.declared.run.Run.{Run as NumberRun}
use Rattle.held_locks.specs.Held.{Held}

-- the runs are all that the settings leave, each owner by its number
pub record IsListing (h : Held) (runs : List NumberRun) : Type 0 where
  pub held : NumberHeld
  pub stands : Stands (names_of_owners h.names) held h.settings
  pub all : AreRuns (number_cmp (names_of_owners h.names)) held runs
