use Rattle.restart_laws.proofs.StepLaws.{begins_under_law}
use Rattle.restart_laws.proofs.restart.restart_is_under_every_list.Goals as goal

pub returns : goal.returns
returns c = begins_under_law
