use Rattle.range_table.proofs.InWay.{blocked_is}
use Rattle.range_table.specs.Settings.{mode_at}
use Rattle.range_table.proofs.flat.FlatTableRangeTable.is_blocked.Goals as goal

pub returns : goal.returns
returns c = rw (← c.self.view_is, c.is_blocked.ensures, c.run.ensures.run) (blocked_is c.self.inside.runs.list (mode_at c.self.inside.history.items) c.args.wanted.now c.self.inside.runs.sorted c.self.invariant.held c.run.ensures.ordered)
