use Rattle.definitions.proofs.TableRunLaws.{first_conflict_law}
use Rattle.definition_laws.proofs.laws.first_conflict_is_least.Goals as goal

pub returns : goal.returns
returns c = first_conflict_law
