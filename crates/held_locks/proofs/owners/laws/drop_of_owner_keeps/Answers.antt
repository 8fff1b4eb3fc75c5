use Rattle.held_locks.proofs.Keeping.{stands_without_owner}
use Rattle.held_locks.proofs.owners.laws.drop_of_owner_keeps.Goals as goal

pub returns : goal.returns
returns c = stands_without_owner
