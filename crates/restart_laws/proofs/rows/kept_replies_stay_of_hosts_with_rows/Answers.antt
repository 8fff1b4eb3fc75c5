use Rattle.restart_laws.proofs.StepLaws.{kept_rows_stay}
use Rattle.restart_laws.proofs.rows.kept_replies_stay_of_hosts_with_rows.Goals as goal

pub returns : goal.returns
returns c = kept_rows_stay c.one_reading.ensures
