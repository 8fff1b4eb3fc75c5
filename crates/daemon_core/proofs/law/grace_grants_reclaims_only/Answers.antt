use Rattle.daemon_core.proofs.Histories.{grace_grants_reclaims_only}
use Rattle.daemon_core.proofs.law.grace_grants_reclaims_only.Goals as goal

pub returns : goal.returns
returns c = grace_grants_reclaims_only c.runs_are_histories.ensures c.histories_grant_reclaims_only.ensures
