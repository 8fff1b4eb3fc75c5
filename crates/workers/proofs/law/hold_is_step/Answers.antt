use Rattle.workers.proofs.HoldLaws.{hold_is_step}
use Rattle.workers.proofs.law.hold_is_step.Goals as goal

pub returns : goal.returns
returns c = hold_is_step
