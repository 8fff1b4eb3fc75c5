use Rattle.restart_laws.proofs.StepLaws.{rows_stay}
use Rattle.restart_laws.proofs.rows.rows_stay.Goals as goal

pub returns : goal.returns
returns c = rows_stay
