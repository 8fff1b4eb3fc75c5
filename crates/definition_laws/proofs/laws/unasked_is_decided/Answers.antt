use Rattle.definition_laws.proofs.AskingLaws.{unasked_law}
use Rattle.definition_laws.proofs.laws.unasked_is_decided.Goals as goal

pub returns : goal.returns
returns c = unasked_law
