use Rattle.std.proofs.Common.{◌≡◌, length}
use Rattle.definitions.specs.Owners.{Owner}
use Rattle.definitions.specs.World.{settled_world, the_limits}
use Rattle.blocked_list.proofs.settling.settle.Given as goal

abbrev pub invariant-loop : goal.invariant-loop
invariant-loop g l = record {
  rest : settled_world the_limits (g.G.Grantor.world l.grantor) ≡ settled_world the_limits (g.G.Grantor.world l.fn.grantor);
  names : g.G.Grantor.names l.grantor ≡ g.G.Grantor.names l.fn.grantor;
  refusals : g.G.Grantor.refusals l.grantor ≡ g.G.Grantor.refusals l.fn.grantor;
  idle : (x : Owner) → g.G.Grantor.Idle l.grantor x → g.G.Grantor.Idle l.fn.grantor x;
}

abbrev pub decreases-loop : goal.decreases-loop
decreases-loop g l = length (g.G.Grantor.world l.grantor).waiters
