use Rattle.owner_ids.specs.Names.{names_of_owners}
use Rattle.range_table.specs.Settings.{mode_at}
use Rattle.held_locks.proofs.InWay.{conflicts_over}
use Rattle.held_locks.proofs.owners.calls.conflicts.Goals as goal

pub returns : goal.returns
returns g c = λ settings r h e. conflicts_over (names_of_owners c.args.owners.now) (mode_at (g.T.RangeTable.settings c.args.table.now)) settings c.args.wanted.now r c.is_blocked.result h e c.run-run.ensures.ordered c.is_blocked.ensures
