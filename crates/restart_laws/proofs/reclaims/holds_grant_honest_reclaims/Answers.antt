use Rattle.restart_laws.proofs.HoldLaws.{holds_grant_honest_reclaims}
use Rattle.restart_laws.proofs.reclaims.holds_grant_honest_reclaims.Goals as goal

pub returns : goal.returns
returns c = holds_grant_honest_reclaims c.hold_is_step.ensures c.honest_histories_grant.ensures
