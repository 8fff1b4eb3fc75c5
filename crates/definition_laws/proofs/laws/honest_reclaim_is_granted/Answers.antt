use Rattle.definition_laws.proofs.RunLaws.{honest_is_granted}
use Rattle.definition_laws.proofs.laws.honest_reclaim_is_granted.Goals as goal

pub returns : goal.returns
returns c = honest_is_granted
