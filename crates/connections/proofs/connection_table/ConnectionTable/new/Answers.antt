use Rattle.std.proofs.Common.{arith, map}
use Rattle.std.proofs.lemmas.Grind.{common_steps}
use Rattle.connections.specs.Seats.{lends}
use Rattle.connections.proofs.Seating.{IsSeated-same, IsSeated-lends}
use Rattle.connections.proofs.Counting.{IsShared-same, IsShared-lends}
use Rattle.connections.proofs.connection_table.ConnectionTable.new.Goals as goal

pub invariant_of-result : goal.invariant_of-result
invariant_of-result g c = (
  IsSeated-same _ (map lends c.loop-lent.yielded) _ (grind (arith, common_steps)) (IsSeated-lends c.loop-lent.yielded),
  IsShared-same _ (map lends c.loop-lent.yielded) _ (grind (arith, common_steps)) (IsShared-lends _ c.loop-lent.yielded),
)
