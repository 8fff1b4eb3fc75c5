use Rattle.std.proofs.Common.{arith}
use Rattle.std.proofs.lemmas.Grind.{common_steps}
use Rattle.lock_state.proofs.world.World.make_due.Goals as goal

pub invariant_of-self : goal.invariant_of-self
invariant_of-self g c = grind (arith, common_steps)

pub returns-clause-world : goal.returns-clause-world
returns-clause-world g c = grind (arith, common_steps)

pub returns-clause-names : goal.returns-clause-names
returns-clause-names g c = grind (arith, common_steps)

pub returns-clause-refusals : goal.returns-clause-refusals
returns-clause-refusals g c = grind (arith, common_steps)
