use Rattle.definition_laws.proofs.ShareLaws.{clash_law}
use Rattle.definition_laws.proofs.laws.clash_is_found.Goals as goal

pub returns : goal.returns
returns c = clash_law
