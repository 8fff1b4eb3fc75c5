use Rattle.definition_laws.proofs.RunLaws.{grace_run_law}
use Rattle.definition_laws.proofs.laws.honest_histories_stay_under.Goals as goal

pub returns : goal.returns
returns c = grace_run_law
