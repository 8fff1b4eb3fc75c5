use Rattle.std.proofs.Common.{ap, ◌∙◌, ◌++◌, ◌∷◌, []}
use Rattle.workers.proofs.Holding.{turns_in_step}
use Rattle.workers.proofs.Counting.{turned_counted}
use Rattle.workers.proofs.shared.Shared.make_room.Goals as goal

pub invariant_of-self-in-Some : goal.invariant_of-self-in-Some
invariant_of-self-in-Some g c =
    let made = rw c.in-Some.is at c.in_ok-closed.ensures.made in
    let more = c.add.ensures.all ∙ ap (λ js. js ++ c.in-Some.closed ∷ []) c.reserve.ensures.same in (
      turns_in_step _ _ _ _ _ _ made.1 more made.2 c.in_ok-closed.ensures.legal c.self.invariant.0,
      turned_counted _ _ _ _ _ _ made.1 more made.2 c.self.invariant.1,
    )

pub invariant_of-self-in-Some-2 : goal.invariant_of-self-in-Some-2
invariant_of-self-in-Some-2 g c =
    let made = rw c.in-Some.is at c.in_ok-closed.ensures.made in
    let more = c.add.ensures.all ∙ ap (λ js. js ++ c.in-Some.closed ∷ []) c.reserve.ensures.same in (
      turns_in_step _ _ _ _ _ _ made.1 more made.2 c.in_ok-closed.ensures.legal c.self.invariant.0,
      turned_counted _ _ _ _ _ _ made.1 more made.2 c.self.invariant.1,
    )
