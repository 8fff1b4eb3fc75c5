use Rattle.owner_ids.specs.Names.{names_of_owners}
use Rattle.range_table.specs.Settings.{mode_at}
use Rattle.held_locks.proofs.InWay.{conflicts_with_over}
use Rattle.held_locks.proofs.owners.calls.conflicts_with.Goals as goal

pub returns : goal.returns
returns g c = λ settings r y h e n. conflicts_with_over (names_of_owners c.args.owners.now) (mode_at (g.T.RangeTable.settings c.args.table.now)) settings c.args.wanted.now r c.args.owner y h e n c.is_owner_in_way.result c.run-run.ensures.ordered c.is_owner_in_way.ensures
