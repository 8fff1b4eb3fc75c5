use Rattle.std.proofs.Common.{refl, arith}
use Rattle.std.proofs.lemmas.Grind.{common_steps}
use Rattle.callback_sender.specs.Waits.{is_up}
use Rattle.callback_sender.proofs.WaitLemmas.{TakesCall-at, passes-at}
use Rattle.callback_sender.proofs.pending_calls.PendingCalls.take_silent.Goals as goal

pub returns-clause-some : goal.returns-clause-some
returns-clause-some c =
    rw (← c.self.view_is) (TakesCall-at _ _ (is_up c.args.now) c.in_ok-place.place c.swap_remove.result (grind (arith, common_steps)) c.swap_remove.ensures.value c.swap_remove.ensures.items refl)

pub returns-clause-up : goal.returns-clause-up
returns-clause-up c = passes-at c.self.inside.calls.items (is_up c.args.now) c.in_ok-place.place c.swap_remove.result (grind (arith, common_steps)) c.swap_remove.ensures.value
