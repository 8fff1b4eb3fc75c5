use Rattle.std.proofs.Common.{take}
use Rattle.blocked_list.specs.ByOwner.{AreCounted}
use Rattle.blocked_list.proofs.by_owner.ByOwner.renew.Given as goal

abbrev pub invariant-loop-place : goal.invariant-loop-place
invariant-loop-place l = AreCounted (take l.place l.waiters) l.self
