use Rattle.call_plans.proofs.Idle.{lock_not_idle}
use Rattle.call_plans.proofs.steps.lock.Goals as goal

pub returns-clause-forgotten : goal.returns-clause-forgotten
returns-clause-forgotten g c = lock_not_idle c.lock.result c.args.world.now c.lock.new.self _ c.args.wanted.now c.lock.ensures.ok c.request.ensures
