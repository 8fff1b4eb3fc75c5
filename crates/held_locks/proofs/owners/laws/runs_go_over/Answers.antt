use Rattle.held_locks.proofs.FirstConflicts.{runs_over}
use Rattle.held_locks.proofs.owners.laws.runs_go_over.Goals as goal

pub returns : goal.returns
returns c = runs_over
