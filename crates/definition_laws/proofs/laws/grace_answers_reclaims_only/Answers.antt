use Rattle.definition_laws.proofs.GraceAnswers.{grace_answers_law}
use Rattle.definition_laws.proofs.laws.grace_answers_reclaims_only.Goals as goal

pub returns : goal.returns
returns c = grace_answers_law
