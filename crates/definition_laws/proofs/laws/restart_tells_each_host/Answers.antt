use Rattle.definitions.proofs.WorldLaws.{restart_notices}
use Rattle.definition_laws.proofs.laws.restart_tells_each_host.Goals as goal

pub returns : goal.returns
returns c = restart_notices
