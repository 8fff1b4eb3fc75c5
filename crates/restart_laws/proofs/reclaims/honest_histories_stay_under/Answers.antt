use Rattle.restart_laws.proofs.HistoryLaws.{honest_histories_stay_under}
use Rattle.restart_laws.proofs.reclaims.honest_histories_stay_under.Goals as goal

pub returns : goal.returns
returns c = honest_histories_stay_under
