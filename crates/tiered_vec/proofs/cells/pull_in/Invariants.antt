use Rattle.std.proofs.Common.{◌-◌}
use Rattle.tiered_vec.specs.Moves.{PulledIn}
use Rattle.tiered_vec.proofs.cells.pull_in.Given as goal

abbrev pub invariant-loop-back : goal.invariant-loop-back
invariant-loop-back l = record {
  pulled : PulledIn l.initial.cells (l.end - l.back) l.end l.number l.cells l.carried;
}
