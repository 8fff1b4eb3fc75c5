use Rattle.definitions.proofs.ReclaimLaws.{restart_is_under}
use Rattle.definition_laws.proofs.laws.restarted_world_is_under.Goals as goal

pub returns : goal.returns
returns c = restart_is_under
