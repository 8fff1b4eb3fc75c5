use Rattle.std.proofs.Common.{◌++◌, ◌∷◌, [], arith, sym, ap, ◌∙◌, append_assoc}
use Rattle.std.proofs.lemmas.Grind.{common_steps}
use Rattle.daemon_core.proofs.DaemonLemmas.{Run-more}
use Rattle.daemon_core.proofs.daemon.Daemon.run.Goals as goal

pub loop-event-preserved : goal.loop-event-preserved
loop-event-preserved g c =
    let before = c.loop-event.invariant in
    let next = c.in-Some.ensures.steps in (
      tt,
      tt,
      rw c.push_reserved.ensures.items (Run-more _ _ _ _ _ _ _ before.2 c.step.ensures),
      append_assoc c.loop-event.yielded (c.in-Some.event ∷ []) _ ∙ (ap (λ xs. c.loop-event.yielded ++ xs) (sym next.0) ∙ before.3),
      grind (arith, common_steps),
      grind (arith, common_steps),
    )
