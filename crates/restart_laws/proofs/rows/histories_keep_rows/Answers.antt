use Rattle.restart_laws.proofs.HistoryLaws.{histories_keep_rows}
use Rattle.restart_laws.proofs.rows.histories_keep_rows.Goals as goal

pub returns : goal.returns
returns c = histories_keep_rows
