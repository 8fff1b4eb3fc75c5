use Rattle.std.proofs.Common.{◌≡◌, map}
use Rattle.connections.specs.Seats.{lends}
use Rattle.connections.proofs.connection_table.ConnectionTable.new.Given as goal

abbrev pub invariant-loop-lent : goal.invariant-loop-lent
invariant-loop-lent g l = l.places.items ≡ map lends l.yielded
