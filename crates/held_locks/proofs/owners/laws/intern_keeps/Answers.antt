use Rattle.held_locks.proofs.Keeping.{interned}
use Rattle.held_locks.proofs.owners.laws.intern_keeps.Goals as goal

pub returns : goal.returns
returns c = interned
