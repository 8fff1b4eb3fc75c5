use Rattle.definitions.proofs.HostLaws.{hosts_law}
use Rattle.definition_laws.proofs.laws.hosts_stay_in_order.Goals as goal

pub returns : goal.returns
returns c = hosts_law
