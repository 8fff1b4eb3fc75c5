use Rattle.owner_ids.specs.Names.{names_of_owners}
use Rattle.range_table.specs.Settings.{mode_at}
use Rattle.held_locks.proofs.OwnerCounting.{used_over}
use Rattle.held_locks.proofs.locks.Locks.used.Goals as goal

pub returns : goal.returns
returns g c =
    rw (← c.self.view_is) (used_over (names_of_owners c.self.inside.owners) (mode_at (g.R.RangeTable.settings c.self.inside.table)) c.self.inside.settings.items c.used.result c.self.invariant.tied.stands c.used.ensures)
