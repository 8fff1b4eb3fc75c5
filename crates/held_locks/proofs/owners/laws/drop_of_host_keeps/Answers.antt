use Rattle.held_locks.proofs.Keeping.{stands_without_host}
use Rattle.held_locks.proofs.owners.laws.drop_of_host_keeps.Goals as goal

pub returns : goal.returns
returns c = stands_without_host
