use Rattle.definition_laws.proofs.SideSteps.{rules_law}
use Rattle.definition_laws.proofs.laws.rules_stay.Goals as goal

pub returns : goal.returns
returns c = rules_law
