use Rattle.std.proofs.Common.{inr, subst, sym}
use Rattle.definitions.specs.Answer.{ruling}
use Rattle.definitions.specs.World.{World, the_limits}
use Rattle.call_codec.specs.CallValues.{view_of_call}
use Rattle.call_plans.specs.Planned.{IsPlan}
use Rattle.lock_service.proofs.steps.plan_and_ask.Goals as goal

pub returns-in_default-clause-forgotten : goal.returns-in_default-clause-forgotten
returns-in_default-clause-forgotten g c =
    let before = c.args.world.now.world in
    let made = c.in_ok-plan.plan in
    inr (record {
      made = made;
      is_plan = subst (λ (w : World). IsPlan (ruling the_limits before c.args.local (view_of_call c.args.call.now)) w made) (sym c.in_default.ensures.err.0) c.in_ok-plan.ensures.plan;
      forgotten = c.in_default.ensures.forgotten;
    })
