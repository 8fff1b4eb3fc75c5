use Rattle.definitions.proofs.OwnerLaws.{owners_law}
use Rattle.definition_laws.proofs.laws.owners_are_ordered.Goals as goal

pub returns : goal.returns
returns c = owners_law
