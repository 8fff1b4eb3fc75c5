use Rattle.restart_laws.proofs.RunLaws.{daemon_begins_anew}
use Rattle.restart_laws.proofs.restart.daemon_begins_anew.Goals as goal

pub returns : goal.returns
returns c = daemon_begins_anew
