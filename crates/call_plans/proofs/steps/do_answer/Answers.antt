use Rattle.std.proofs.Common.{ap}
use Rattle.definitions.specs.Answer.{Answered}
use Rattle.call_plans.proofs.Due.{by_still}
use Rattle.call_plans.proofs.steps.do_answer.Goals as goal

pub returns-clause-forgotten : goal.returns-clause-forgotten
returns-clause-forgotten g c =
    by_still c.args.answer.told.due.items c.make_change.new.world c.tell.new.world (ap (λ (a : Answered). a.world) c.tell.ensures.told) c.tell.ensures.names c.args.answer.change c.args.world.now.world.calls c.make_change.ensures.forgotten
