use Rattle.range_table.proofs.InWay.{in_way_is}
use Rattle.range_table.specs.Settings.{mode_at}
use Rattle.range_arena.proofs.arena.ArenaTableRangeTable.is_owner_in_way.Goals as goal

pub returns : goal.returns
returns c = rw (← c.self.view_is, c.is_owner_in_way.ensures, c.run.ensures.run) (in_way_is c.self.inside.runs.list (mode_at c.self.inside.history.items) c.args.wanted.now c.self.inside.runs.sorted c.self.invariant.held c.run.ensures.ordered c.args.owner)
