use Rattle.daemon_core.proofs.Histories.{grace_tells_of_no_grant}
use Rattle.daemon_core.proofs.law.grace_tells_of_no_grant.Goals as goal

pub returns : goal.returns
returns c = grace_tells_of_no_grant c.runs_are_histories.ensures c.histories_tell_of_no_grant.ensures
