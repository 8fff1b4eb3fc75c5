use Rattle.held_locks.proofs.Keeping.{cleared}
use Rattle.held_locks.proofs.owners.laws.clear_keeps.Goals as goal

pub returns : goal.returns
returns c = cleared
