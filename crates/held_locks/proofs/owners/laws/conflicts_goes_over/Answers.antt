use Rattle.held_locks.proofs.InWay.{conflicts_over}
use Rattle.held_locks.proofs.owners.laws.conflicts_goes_over.Goals as goal

pub returns : goal.returns
returns c = conflicts_over
