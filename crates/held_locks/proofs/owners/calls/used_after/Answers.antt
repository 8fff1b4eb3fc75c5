use Rattle.owner_ids.specs.Names.{names_of_owners}
use Rattle.held_locks.proofs.OwnerCounting.{used_after_over}
use Rattle.held_locks.proofs.owners.calls.used_after.Goals as goal

pub returns : goal.returns
returns g c = λ settings t h e. used_after_over (names_of_owners c.args.owners.now) (g.T.RangeTable.settings c.args.table.now) settings c.args.range.now.setting t c.used_after.result h e c.used_after.ensures
