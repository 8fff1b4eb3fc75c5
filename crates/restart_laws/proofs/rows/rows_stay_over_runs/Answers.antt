use Rattle.restart_laws.proofs.RunLaws.{runs_keep_rows}
use Rattle.restart_laws.proofs.rows.rows_stay_over_runs.Goals as goal

pub returns : goal.returns
returns c = runs_keep_rows c.runs_are_histories.ensures c.histories_keep_rows.ensures c.histories_monitor_hosts.ensures
