use Rattle.held_locks.proofs.OwnerCounting.{refusal_over}
use Rattle.held_locks.proofs.owners.laws.refusal_goes_over.Goals as goal

pub returns : goal.returns
returns c = refusal_over
