use Rattle.definition_laws.proofs.SideSteps.{numbers_law}
use Rattle.definition_laws.proofs.laws.numbers_rise_by_one.Goals as goal

pub returns : goal.returns
returns c = numbers_law
