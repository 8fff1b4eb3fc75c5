use Rattle.std.proofs.Common.{◌&&◌, Bool, eqb, ap, ◌∙◌}
use Rattle.std.proofs.lemmas.List.{take_all}
use Rattle.definitions.specs.Outgoing.{Outgoing, oldest_that, xid_of, was_sent}
use Rattle.out_calls.specs.Found.{found}
use Rattle.out_calls.proofs.Oldest.{oldest_that-yes, oldest_that-no}
use Rattle.out_calls.proofs.calls.OutCalls.of_xid.Goals.{then-is_answered_by, else-is_answered_by}
use Rattle.out_calls.proofs.calls.OutCalls.of_xid.Goals as goal

pub loop-call-preserved : goal.loop-call-preserved
loop-call-preserved c =
    let test : Outgoing → Bool = λ (d : Outgoing). eqb (xid_of d) c.args.xid && was_sent d in
    elim c.if-is_answered_by.branch [
      | then-is_answered_by w ↦ ap found w.oldest-is ∙ oldest_that-yes test c.as_slice-calls.result.now c.loop-call.call-index c.call-item.result (found c.loop-call.oldest) c.loop-call-test.true c.call-item.is c.loop-call.invariant w.older.result.now w.if-is_answered_by.ensures w.older.ensures
      | else-is_answered_by w ↦ ap found w.oldest-is ∙ oldest_that-no test c.as_slice-calls.result.now c.loop-call.call-index c.call-item.result (found c.loop-call.oldest) c.loop-call-test.true c.call-item.is c.loop-call.invariant w.if-is_answered_by.ensures
    ]

pub returns : goal.returns
returns c = c.loop-call.invariant ∙ ap (oldest_that (λ (d : Outgoing). eqb (xid_of d) c.args.xid && was_sent d)) (take_all _ _ c.loop-call-test.false ∙ c.as_slice-calls.ensures.value ∙ c.self.view_is)
