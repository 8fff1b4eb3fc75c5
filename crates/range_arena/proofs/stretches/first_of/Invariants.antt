use Rattle.std.proofs.Common.{◌≡◌, ◌≤◌, ◌<◌, ℕ, get_or, false}
use Rattle.range_table.specs.Settings.{conflicts}
use Rattle.range_table.specs.declared.run.Run.{Run}
use Rattle.range_arena.proofs.stretches.first_of.Given as goal

abbrev pub invariant-loop-at : goal.invariant-loop-at
invariant-loop-at l = (i : ℕ) (r : Run) → l.begin ≤ i → i < l.at → r ≡ get_or l.runs i r → conflicts l.wanted r ≡ false
