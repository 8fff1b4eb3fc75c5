use Rattle.held_locks.proofs.FirstConflicts.{first_over}
use Rattle.held_locks.proofs.owners.laws.first_conflict_goes_over.Goals as goal

pub returns : goal.returns
returns c = first_over
