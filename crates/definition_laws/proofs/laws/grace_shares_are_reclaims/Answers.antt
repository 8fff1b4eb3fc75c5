use Rattle.definition_laws.proofs.StandingLaws.{grace_shares_law}
use Rattle.definition_laws.proofs.laws.grace_shares_are_reclaims.Goals as goal

pub returns : goal.returns
returns c = grace_shares_law
