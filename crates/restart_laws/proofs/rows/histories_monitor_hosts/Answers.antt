use Rattle.restart_laws.proofs.HistoryLaws.{histories_monitor_hosts}
use Rattle.restart_laws.proofs.rows.histories_monitor_hosts.Goals as goal

pub returns : goal.returns
returns c = histories_monitor_hosts c.one_reading.ensures
