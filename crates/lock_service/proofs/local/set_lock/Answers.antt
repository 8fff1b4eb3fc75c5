use Rattle.std.proofs.Common.{arith}
use Rattle.std.proofs.lemmas.Grind.{common_steps}
use Rattle.lock_service.proofs.local.set_lock.Goals as goal

pub make_change-requires-clause-fits : goal.make_change-requires-clause-fits
make_change-requires-clause-fits g c = grind (arith, common_steps)

pub make_change-requires-clause-ready : goal.make_change-requires-clause-ready
make_change-requires-clause-ready g c = grind (arith, common_steps)

pub returns-clause-reply : goal.returns-clause-reply
returns-clause-reply g c = grind (arith, common_steps)

pub returns-clause-world : goal.returns-clause-world
returns-clause-world g c = grind (arith, common_steps)

pub returns-clause-err : goal.returns-clause-err
returns-clause-err g c = grind (arith, common_steps)

pub returns-clause-refusals : goal.returns-clause-refusals
returns-clause-refusals g c = grind (arith, common_steps)

pub returns-clause-forgotten : goal.returns-clause-forgotten
returns-clause-forgotten g c = grind (arith, common_steps)

pub returns-clause-unknown : goal.returns-clause-unknown
returns-clause-unknown g c = grind (arith, common_steps)
