use Rattle.definition_laws.proofs.AskingLaws.{starved_law}
use Rattle.definition_laws.proofs.laws.starved_leaves_all_but_hosts.Goals as goal

pub returns : goal.returns
returns c = starved_law
