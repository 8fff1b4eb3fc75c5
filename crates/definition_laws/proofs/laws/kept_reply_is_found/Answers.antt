use Rattle.definition_laws.proofs.KeptLaws.{kept_is_found}
use Rattle.definition_laws.proofs.laws.kept_reply_is_found.Goals as goal

pub returns : goal.returns
returns c = kept_is_found
