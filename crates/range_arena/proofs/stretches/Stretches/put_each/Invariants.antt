use Rattle.std.proofs.Common.{◌≡◌, ◌≤◌, ℕ, List, length, get_or}
use Rattle.std.specs.List.{insert}
use Rattle.range_arena.specs.Reaches.{AreVouched}
use Rattle.range_table.specs.declared.run.Run.{Run}
use Rattle.range_arena.specs.declared.stretch.Stretch.{Stretch}
use Rattle.range_arena.proofs.stretches.Stretches.put_each.Given as goal

abbrev pub invariant-loop-k : goal.invariant-loop-k
invariant-loop-k l = record {
  count : l.self.count ≡ l.initial.self.count;
  done : (runs : List Run) → l.at ≤ length runs → AreVouched l.initial.self.items.items l.initial.self.count runs → AreVouched l.self.items.items l.k (insert runs l.at l.run);
  rest : (j : ℕ) (s : Stretch) → l.k ≤ j → s ≡ get_or l.self.items.items j s → s ≡ get_or l.initial.self.items.items j s;
}
