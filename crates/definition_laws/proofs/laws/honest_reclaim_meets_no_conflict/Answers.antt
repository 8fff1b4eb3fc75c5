use Rattle.definitions.proofs.ReclaimLaws.{honest_meets_no_conflict}
use Rattle.definition_laws.proofs.laws.honest_reclaim_meets_no_conflict.Goals as goal

pub returns : goal.returns
returns c = honest_meets_no_conflict
