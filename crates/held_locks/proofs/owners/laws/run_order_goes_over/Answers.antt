use Rattle.held_locks.proofs.RunOrders.{run_order_over}
use Rattle.held_locks.proofs.owners.laws.run_order_goes_over.Goals as goal

pub returns : goal.returns
returns c = run_order_over
