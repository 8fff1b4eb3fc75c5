use Rattle.restart_laws.proofs.RunLaws.{honest_runs_stay_under}
use Rattle.restart_laws.proofs.reclaims.honest_runs_stay_under.Goals as goal

pub returns : goal.returns
returns c = honest_runs_stay_under c.honest_histories_stay_under.ensures
