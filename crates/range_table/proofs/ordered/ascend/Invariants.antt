use Rattle.std.proofs.Common.{◌≡◌, drop}
use Rattle.range_table.specs.Runs.{ascends}
use Rattle.range_table.proofs.ordered.ascend.Given as goal

abbrev pub invariant-loop-run : goal.invariant-loop-run
invariant-loop-run g l = ascends (g.O.OwnerOrder.order l.owners) l.last (drop l.run-index l.rest) ≡ ascends (g.O.OwnerOrder.order l.fn.owners) l.fn.first l.fn.rest
