use Rattle.definition_laws.proofs.GrantlessLaws.{grace_calls_law}
use Rattle.definition_laws.proofs.laws.grace_tells_of_no_grant.Goals as goal

pub returns : goal.returns
returns c = grace_calls_law
