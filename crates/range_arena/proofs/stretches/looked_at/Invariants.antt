use Rattle.std.proofs.Common.{◌≡◌, ◌≤◌, ◌<◌, ℕ, get_or}
use Rattle.range_arena.specs.Reaches.{Covers}
use Rattle.range_table.specs.declared.run.Run.{Run}
use Rattle.range_arena.proofs.stretches.looked_at.Given as goal

abbrev pub invariant-loop-at : goal.invariant-loop-at
invariant-loop-at l = record {
  start : l.fresh.start ≡ l.stretch.start;
  end : l.fresh.end ≡ l.stretch.end;
  seen : (i : ℕ) (r : Run) → l.stretch.start ≤ i → i < l.at → r ≡ get_or l.runs i r → Covers l.fresh r;
}
