use Rattle.call_plans.proofs.Idle.{wait_not_idle}
use Rattle.call_plans.proofs.steps.make_change.Goals as goal

pub returns-in-Wait-clause-forgotten : goal.returns-in-Wait-clause-forgotten
returns-in-Wait-clause-forgotten g c =
    rw c.in-Wait.is (λ idle known. wait_not_idle c.args.world.now c.wait.new.self _ c.in-Wait.callback c.in-Wait.wanted c.wait.ensures c.request.ensures idle)
