use Rattle.definitions.proofs.HostLaws.{shares_law}
use Rattle.definition_laws.proofs.laws.shares_stay_single.Goals as goal

pub returns : goal.returns
returns c = shares_law
