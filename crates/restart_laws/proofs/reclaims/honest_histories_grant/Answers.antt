use Rattle.restart_laws.proofs.HistoryLaws.{honest_histories_grant}
use Rattle.restart_laws.proofs.reclaims.honest_histories_grant.Goals as goal

pub returns : goal.returns
returns c = honest_histories_grant
