use Rattle.restart_laws.proofs.StepLaws.{standing_has_row}
use Rattle.restart_laws.proofs.rows.standing_lock_has_row.Goals as goal

pub returns : goal.returns
returns c = standing_has_row
