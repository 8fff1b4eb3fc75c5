use Rattle.std.proofs.Common.{arith}
use Rattle.std.proofs.lemmas.Grind.{common_steps}
use Rattle.connections.specs.Seats.{taken_by, with_place}
use Rattle.connections.proofs.Seating.{IsSeated-admitted, HasPlace-admitted}
use Rattle.connections.proofs.Counting.{IsShared-same, IsShared-taken_by}
use Rattle.connections.proofs.connection_table.ConnectionTable.admit.Goals as goal

pub invariant_of-self : goal.invariant_of-self
invariant_of-self g c =
    let places = c.self.inside.places.items in (
      IsSeated-admitted c.args.peer c.self.inside.next c.in-Some.later c.in-Some.number c.in-Some.place places _ c.self.invariant.0 (grind (arith, common_steps)) (grind (arith, common_steps)) (grind (arith, common_steps)) (grind (arith, common_steps)),
      IsShared-same _ (with_place (taken_by (record { number = c.in-Some.number; peer = c.args.peer })) c.in-Some.place places) _ (grind (arith, common_steps)) (IsShared-taken_by _ _ places c.in-Some.place (grind (arith, common_steps)) (grind (arith, common_steps)) c.self.invariant.1),
    )

pub returns-in-Some-open-clause-seated : goal.returns-in-Some-open-clause-seated
returns-in-Some-open-clause-seated g c =
    let places = c.self.inside.places.items in
    HasPlace-admitted c.args.peer c.self.inside.next c.in-Some.later c.in-Some-open.theirs.value c.in-Some.place places _ c.self.invariant.0 (grind (arith, common_steps)) (grind (arith, common_steps)) (grind (arith, common_steps)) (grind (arith, common_steps))
