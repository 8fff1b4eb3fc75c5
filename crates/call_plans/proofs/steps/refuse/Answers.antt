use Rattle.std.proofs.Common.{ap, sym, subst}
use Rattle.definitions.specs.Answer.{Answered}
use Rattle.call_plans.specs.Planned.{IsForgottenFor}
use Rattle.call_plans.proofs.Due.{for_still}
use Rattle.call_plans.proofs.steps.refuse.Goals as goal

pub returns-clause-forgotten : goal.returns-clause-forgotten
returns-clause-forgotten g c =
    let s = c.forget.new.world in
    let change = c.args.agreed.change in
    for_still c.args.refused.due.items s c.tell.new.world (ap (λ (a : Answered). a.world) c.tell.ensures.told) c.tell.ensures.names change
    (subst (λ w. IsForgottenFor change w s) (sym c.forget.ensures.world) c.forget.ensures.forgotten)
