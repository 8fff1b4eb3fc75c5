use Rattle.restart_laws.proofs.StepLaws.{stays_under}
use Rattle.restart_laws.proofs.reclaims.world_stays_under_the_list.Goals as goal

pub returns : goal.returns
returns c = stays_under
