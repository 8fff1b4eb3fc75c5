use Rattle.held_locks.proofs.OwnerCounting.{used_after_over}
use Rattle.held_locks.proofs.owners.laws.used_after_goes_over.Goals as goal

pub returns : goal.returns
returns c = used_after_over
