use Rattle.std.proofs.Common.{arith, None}
use Rattle.std.proofs.lemmas.Grind.{common_steps}
use Rattle.connections.specs.Seats.{with_lent, with_place}
use Rattle.connections.proofs.Seating.{IsSeated-same, IsSeated-with_lent}
use Rattle.connections.proofs.Counting.{IsShared-same, IsShared-with_lent}
use Rattle.connections.proofs.connection_table.ConnectionTable.lend.Goals as goal

pub invariant_of-self : goal.invariant_of-self
invariant_of-self g c =
    let places = c.self.inside.places.items in
    let index = c.place_of-index.result in (
      IsSeated-same _ (with_place (with_lent None) index places) _ (grind (arith, common_steps)) (IsSeated-with_lent None _ places index c.self.invariant.0),
      IsShared-same _ (with_place (with_lent None) index places) _ (grind (arith, common_steps)) (IsShared-with_lent None _ places index c.self.invariant.1),
    )
