use Rattle.std.proofs.Common.{take}
use Rattle.blocked_list.specs.Hulls.{AreIn}
use Rattle.blocked_list.proofs.hulls.Hulls.refresh.Given as goal

abbrev pub invariant-loop-place : goal.invariant-loop-place
invariant-loop-place l = AreIn (take l.place l.waiters) l.self
