use Rattle.held_locks.proofs.OwnerCounting.{used_over}
use Rattle.held_locks.proofs.owners.laws.used_goes_over.Goals as goal

pub returns : goal.returns
returns c = used_over
