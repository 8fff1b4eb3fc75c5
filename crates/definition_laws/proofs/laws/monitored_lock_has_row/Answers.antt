use Rattle.definition_laws.proofs.MonitoredLaws.{monitored_law}
use Rattle.definition_laws.proofs.laws.monitored_lock_has_row.Goals as goal

pub returns : goal.returns
returns c = monitored_law
