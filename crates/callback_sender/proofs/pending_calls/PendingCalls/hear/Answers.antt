use Rattle.std.proofs.Common.{refl, arith}
use Rattle.std.proofs.lemmas.Grind.{common_steps}
use Rattle.callback_sender.proofs.WaitLemmas.{HearsReply-ended, HearsReply-answered}
use Rattle.callback_sender.proofs.pending_calls.PendingCalls.hear.Goals as goal

pub returns-then-call-clause-kept : goal.returns-then-call-clause-kept
returns-then-call-clause-kept c =
    λ _. rw (← c.self.view_is) (HearsReply-ended _ _ c.in-Some.xid c.in-Some.ensures.some _ _ c.in-Some-awaiting.place (grind (arith, common_steps)) c.index-call.result.now c.swap_remove.result c.index-call.ensures c.swap_remove.ensures.value (grind (arith, common_steps)) c.if-call.true c.swap_remove.ensures.items)

pub returns-else-call-clause-kept : goal.returns-else-call-clause-kept
returns-else-call-clause-kept c =
    λ _. rw (← c.self.view_is) (HearsReply-answered _ _ c.in-Some.xid c.in-Some.ensures.some _ _ c.in-Some-awaiting.place (grind (arith, common_steps)) c.index-call.result.now c.index_mut.result.now c.index-call.ensures c.index_mut.ensures.value (grind (arith, common_steps)) c.if-call.false refl)
