use Rattle.range_arena.specs.Reaches.{AreVouched}
use Rattle.range_arena.proofs.stretches.Stretches.rebuild.Given as goal

abbrev pub invariant-loop-k : goal.invariant-loop-k
invariant-loop-k l = AreVouched l.self.items.items l.self.count l.runs
