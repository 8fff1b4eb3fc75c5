use Rattle.std.proofs.Common.{sym, subst}
use Rattle.owner_ids.specs.Views.{view_of_owner}
use Rattle.owner_ids.specs.Names.{names_of_owners, IsNumberFor}
use Rattle.held_locks.proofs.Guests.{guests_used_after}
use Rattle.held_locks.proofs.locks.Locks.used_after.Goals as goal

pub returns : goal.returns
returns g c =
    let asker = subst (λ h. IsNumberFor (names_of_owners h.names) c.asker-asker.result (view_of_owner c.args.setting.now.owner.now)) (sym c.self.view_is) c.asker-asker.ensures in
    rw (← c.self.view_is) (guests_used_after (g.R.RangeTable.settings c.self.inside.table) c.self.inside.settings.items c.asker-asker.result c.args.setting.now c.used_after.result c.used_after.ensures (names_of_owners c.self.inside.owners) c.self.invariant.tied.stands asker)
