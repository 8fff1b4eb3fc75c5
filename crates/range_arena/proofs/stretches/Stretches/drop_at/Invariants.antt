use Rattle.std.proofs.Common.{◌≡◌, List}
use Rattle.range_arena.specs.Reaches.{AreVouched}
use Rattle.range_table.specs.declared.run.Run.{Run}
use Rattle.range_arena.proofs.stretches.Stretches.drop_at.Given as goal

abbrev pub invariant-loop-at : goal.invariant-loop-at
invariant-loop-at l = record {
  count : l.self.count ≡ l.initial.self.count;
  vouched : (runs : List Run) → AreVouched l.initial.self.items.items l.initial.self.count runs → AreVouched l.self.items.items l.self.count runs;
}
