use Rattle.definition_laws.proofs.StandingLaws.{share_run_law}
use Rattle.definition_laws.proofs.laws.shares_coexist.Goals as goal

pub returns : goal.returns
returns c = share_run_law
