use Rattle.held_locks.proofs.Keeping.{released}
use Rattle.held_locks.proofs.owners.laws.release_keeps.Goals as goal

pub returns : goal.returns
returns c = released
