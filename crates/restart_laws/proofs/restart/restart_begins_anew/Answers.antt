use Rattle.restart_laws.proofs.StepLaws.{begins_anew_law}
use Rattle.restart_laws.proofs.restart.restart_begins_anew.Goals as goal

pub returns : goal.returns
returns c = begins_anew_law
