use Rattle.restart_laws.proofs.RunLaws.{honest_reclaims_are_granted}
use Rattle.restart_laws.proofs.reclaims.honest_reclaims_are_granted.Goals as goal

pub returns : goal.returns
returns c = honest_reclaims_are_granted c.honest_runs_stay_under.ensures
