use Rattle.workers.proofs.Holding.{begins_in_step}
use Rattle.workers.proofs.Counting.{begun_counted}
use Rattle.workers.proofs.shared.Shared.new.Goals as goal

pub invariant_of-result : goal.invariant_of-result
invariant_of-result g c =
    let why = c.in-None.ensures in (
      begins_in_step _ _ c.args.book c.apply-step_result.new.self c.apply-step_result.result c.requires.new c.apply-step_result.ensures.enters why.0 why.1 c.new.ensures.all c.requires.total c.apply-step_result.ensures.legal,
      begun_counted _ c.args.book c.apply-step_result.new.self _ _ c.apply-step_result.result _ c.new.ensures.all c.requires.new c.apply-step_result.ensures.enters c.step_result.view_is c.counts_of_restart.ensures,
    )
