use Rattle.definition_laws.proofs.SideSteps.{own_name_law}
use Rattle.definition_laws.proofs.laws.own_name_stays.Goals as goal

pub returns : goal.returns
returns c = own_name_law
