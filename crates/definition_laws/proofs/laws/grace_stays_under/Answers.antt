use Rattle.definition_laws.proofs.StepLaws.{grace_law}
use Rattle.definition_laws.proofs.laws.grace_stays_under.Goals as goal

pub returns : goal.returns
returns c = grace_law
