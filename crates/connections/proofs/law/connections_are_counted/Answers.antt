use Rattle.connections.proofs.Counting.{counted_at_come, counted_at_leave}
use Rattle.connections.proofs.law.connections_are_counted.Goals as goal

pub returns-clause-come : goal.returns-clause-come
returns-clause-come g c = counted_at_come _

pub returns-clause-leave : goal.returns-clause-leave
returns-clause-leave g c = counted_at_leave _
