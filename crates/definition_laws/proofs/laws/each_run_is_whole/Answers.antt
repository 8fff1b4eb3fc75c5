use Rattle.definitions.proofs.TableRunLaws.{runs_law}
use Rattle.definition_laws.proofs.laws.each_run_is_whole.Goals as goal

pub returns : goal.returns
returns c = runs_law
