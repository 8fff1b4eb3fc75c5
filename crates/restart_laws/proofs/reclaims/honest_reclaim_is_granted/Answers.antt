use Rattle.restart_laws.proofs.StepLaws.{reclaim_is_granted}
use Rattle.restart_laws.proofs.reclaims.honest_reclaim_is_granted.Goals as goal

pub returns : goal.returns
returns c = reclaim_is_granted
