use Rattle.definition_laws.proofs.StoreLaws.{host_run_law}
use Rattle.definition_laws.proofs.laws.hosts_stay_in_order_over_runs.Goals as goal

pub returns : goal.returns
returns c = host_run_law
