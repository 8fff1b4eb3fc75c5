use Rattle.range_table.proofs.FirstConflict.{first_is}
use Rattle.range_table.specs.Settings.{mode_at}
use Rattle.range_arena.proofs.arena.ArenaTableRangeTable.first_conflict.Goals as goal

pub returns : goal.returns
returns g c = rw (← c.self.view_is, c.first_conflict.ensures, c.run.ensures.run) (first_is (g.O.OwnerOrder.order c.args.owners.now) (g.met.O.OwnerOrder.total c.args.owners.now) c.self.inside.runs.list (mode_at c.self.inside.history.items) c.args.wanted.now c.self.inside.runs.sorted c.self.invariant.held)
