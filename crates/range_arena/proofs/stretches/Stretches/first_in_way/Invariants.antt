use Rattle.std.proofs.Common.{◌≡◌, ◌≤◌, ◌<◌, ℕ, get_or, false}
use Rattle.range_table.specs.Settings.{conflicts}
use Rattle.range_table.specs.declared.run.Run.{Run}
use Rattle.range_arena.proofs.stretches.Stretches.first_in_way.Given as goal

abbrev pub invariant-loop-k : goal.invariant-loop-k
invariant-loop-k l = record {
  from : l.begin ≤ l.at;
  upto : l.at ≤ l.past;
  clear : (i : ℕ) (r : Run) → l.begin ≤ i → i < l.at → r ≡ get_or l.runs i r → conflicts l.wanted r ≡ false;
}
