use Rattle.tiered_vec.specs.Moves.{PushedIn}
use Rattle.tiered_vec.proofs.cells.push_in.Given as goal

abbrev pub invariant-loop-at : goal.invariant-loop-at
invariant-loop-at l = record {
  pushed : PushedIn l.initial.cells l.begin l.at l.number l.cells l.carried;
}
