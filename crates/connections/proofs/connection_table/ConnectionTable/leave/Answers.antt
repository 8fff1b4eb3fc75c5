use Rattle.std.proofs.Common.{arith}
use Rattle.std.proofs.lemmas.Grind.{common_steps}
use Rattle.connections.specs.Seats.{left_by, with_place}
use Rattle.connections.proofs.Seating.{IsSeated-same, IsSeated-left_by}
use Rattle.connections.proofs.Counting.{IsShared-same, IsShared-left_by}
use Rattle.connections.proofs.connection_table.ConnectionTable.leave.Goals as goal

pub invariant_of-self : goal.invariant_of-self
invariant_of-self g c =
    let places = c.self.inside.places.items in
    let index = c.place_of-index.result in (
      IsSeated-same _ (with_place (left_by c.args.number) index places) _ (grind (arith, common_steps)) (IsSeated-left_by c.args.number _ places index c.self.invariant.0),
      IsShared-same _ (with_place (left_by c.args.number) index places) _ (grind (arith, common_steps)) (IsShared-left_by c.args.number _ places index c.self.invariant.1),
    )
