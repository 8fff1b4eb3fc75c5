use Rattle.held_locks.proofs.Released.{release_test}
use Rattle.held_locks.proofs.owners.laws.no_runs_hold_nothing.Goals as goal

pub returns : goal.returns
returns c = release_test
