use Rattle.owner_ids.specs.Names.{names_of_owners}
use Rattle.range_table.specs.Settings.{mode_at}
use Rattle.held_locks.proofs.OwnerCounting.{used_over}
use Rattle.held_locks.proofs.owners.calls.used.Goals as goal

pub returns : goal.returns
returns g c = λ settings h. used_over (names_of_owners c.args.owners.now) (mode_at (g.T.RangeTable.settings c.args.table.now)) settings c.used.result h c.used.ensures
