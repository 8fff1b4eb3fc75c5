use Rattle.definition_laws.proofs.StoreLaws.{store_law}
use Rattle.definition_laws.proofs.laws.hosts_follow_the_store.Goals as goal

pub returns : goal.returns
returns c = store_law
