use Rattle.definition_laws.proofs.RepeatLaws.{repeat_law}
use Rattle.definition_laws.proofs.laws.repeat_is_not_applied.Goals as goal

pub returns : goal.returns
returns c = repeat_law
