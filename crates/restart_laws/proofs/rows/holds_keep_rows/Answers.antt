use Rattle.restart_laws.proofs.HoldLaws.{holds_keep_rows}
use Rattle.restart_laws.proofs.rows.holds_keep_rows.Goals as goal

pub returns : goal.returns
returns c = holds_keep_rows c.hold_is_step.ensures c.rows_stay.ensures
