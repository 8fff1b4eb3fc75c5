use Rattle.std.proofs.Common.{◌≡◌, map, take}
use Rattle.definitions.specs.Starts.{runs}
use Rattle.status_lists.specs.Views.{view_of_lock_row}
use Rattle.status_lists.proofs.lists.locks_of.Given as goal

abbrev pub invariant-loop-i : goal.invariant-loop-i
invariant-loop-i g l = map view_of_lock_row l.rows.items ≡ take l.i (runs l.locks.settings)
