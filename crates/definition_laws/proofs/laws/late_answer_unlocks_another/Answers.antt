use Rattle.definition_laws.proofs.PollLaws.{late_answer_law}
use Rattle.definition_laws.proofs.laws.late_answer_unlocks_another.Goals as goal

pub returns : goal.returns
returns c = late_answer_law
