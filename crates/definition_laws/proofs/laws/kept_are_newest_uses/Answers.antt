use Rattle.definition_laws.proofs.KeptLaws.{kept_law}
use Rattle.definition_laws.proofs.laws.kept_are_newest_uses.Goals as goal

pub returns : goal.returns
returns c = kept_law
