use Rattle.held_locks.proofs.Allowances.{past_by_all}
use Rattle.held_locks.proofs.owners.laws.past_is_told_by_all.Goals as goal

pub returns : goal.returns
returns c = past_by_all
