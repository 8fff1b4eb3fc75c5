use Rattle.std.proofs.Common.{◌-◌}
use Rattle.range_arena.proofs.OwnerInWay.{IsClearFrom}
use Rattle.range_arena.proofs.indexed.Indexed.is_owner_in_way.Given as goal

abbrev pub invariant-loop-passed : goal.invariant-loop-passed
invariant-loop-passed l = IsClearFrom l.owner l.wanted l.self-inside.owned (l.place - l.passed)
