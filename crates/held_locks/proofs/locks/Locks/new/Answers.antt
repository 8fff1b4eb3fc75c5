use Rattle.held_locks.proofs.HostCounts.{counted_nothing}
use Rattle.held_locks.proofs.locks.Locks.new.Goals as goal

pub invariant_of-result : goal.invariant_of-result
invariant_of-result g c = rw (c.requires, c.new.ensures, c.new-2.ensures.items, c.new-4.ensures) (counted_nothing c.new-3.result c.new-3.ensures)
