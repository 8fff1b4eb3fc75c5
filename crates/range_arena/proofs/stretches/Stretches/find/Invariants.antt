use Rattle.std.proofs.Common.{◌+◌, ◌≤◌}
use Rattle.range_arena.proofs.stretches.Stretches.find.Given as goal

abbrev pub invariant-loop-size : goal.invariant-loop-size
invariant-loop-size l = l.base + l.size ≤ l.self.count

abbrev pub decreases-loop-size : goal.decreases-loop-size
decreases-loop-size l = l.size
