use Rattle.std.proofs.Common.{◌&&◌, Bool, ap, ◌∙◌}
use Rattle.std.proofs.lemmas.List.{take_all}
use Rattle.definitions.specs.Bytes.{same_bytes, eight_bytes}
use Rattle.definitions.specs.Outgoing.{Outgoing, oldest_that, was_sent, is_granted_msg}
use Rattle.out_calls.specs.Found.{found}
use Rattle.out_calls.proofs.Oldest.{oldest_that-yes, oldest_that-no}
use Rattle.out_calls.proofs.calls.OutCalls.of_cookie.Goals.{then-is_answered_with, else-is_answered_with}
use Rattle.out_calls.proofs.calls.OutCalls.of_cookie.Goals as goal

pub loop-call-preserved : goal.loop-call-preserved
loop-call-preserved c =
    let test : Outgoing → Bool = λ (d : Outgoing). is_granted_msg d.callback.message && (same_bytes (eight_bytes d.number) c.args.cookie.now && was_sent d) in
    elim c.if-is_answered_with.branch [
      | then-is_answered_with w ↦ ap found w.oldest-is ∙ oldest_that-yes test c.as_slice-calls.result.now c.loop-call.call-index c.call-item.result (found c.loop-call.oldest) c.loop-call-test.true c.call-item.is c.loop-call.invariant w.older.result.now w.if-is_answered_with.ensures w.older.ensures
      | else-is_answered_with w ↦ ap found w.oldest-is ∙ oldest_that-no test c.as_slice-calls.result.now c.loop-call.call-index c.call-item.result (found c.loop-call.oldest) c.loop-call-test.true c.call-item.is c.loop-call.invariant w.if-is_answered_with.ensures
    ]

pub returns : goal.returns
returns c = c.loop-call.invariant ∙ ap (oldest_that (λ (d : Outgoing). is_granted_msg d.callback.message && (same_bytes (eight_bytes d.number) c.args.cookie.now && was_sent d))) (take_all _ _ c.loop-call-test.false ∙ c.as_slice-calls.ensures.value ∙ c.self.view_is)
