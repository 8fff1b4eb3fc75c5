use Rattle.std.proofs.Common.{ap, ◌∙◌, sym, Some, subst, ◌<◌}
use Rattle.std.specs.Prelude.{option_map}
use Rattle.kept_replies.specs.Pairs.{view_of_peer}
use Rattle.book.specs.Given.{StepResult}
use Rattle.book.specs.Notes.{Note, Takes}
use Rattle.book.specs.Journal.{room_of}
use Rattle.workers.proofs.Holding.{enters_in_step, told_event}
use Rattle.workers.proofs.Counting.{call_counted, has_room}
use Rattle.workers.proofs.shared.Shared.take.Goals as goal

pub count_call-requires : goal.count_call-requires
count_call-requires g c = has_room _ c.self.inside.archive.all.items c.self.inside.book _ (subst (λ held. 0 < room_of held.book.journal) (sym c.self.view_is) c.in-Ok.ensures.room) c.self.invariant.0 c.self.invariant.1

pub receipt-receipt-requires-clause-call : goal.receipt-receipt-requires-clause-call
receipt-receipt-requires-clause-call g c =
    ap (option_map (λ (n : Note). n.event)) (c.newest_entered.ensures _ _ _ _ c.apply-step_result.ensures.enters)
    ∙ ap (λ asked. Some (Takes (view_of_peer c.args.taken.peer) asked)) c.requires.same

pub receipt-receipt-requires-clause-reply : goal.receipt-receipt-requires-clause-reply
receipt-receipt-requires-clause-reply g c =
    ap (option_map (λ (n : Note). n.step_result.given)) (c.newest_entered.ensures _ _ _ _ c.apply-step_result.ensures.enters)
    ∙ ap (λ (u : StepResult). Some u.given) (sym c.step_result.view_is)

pub invariant_of-self : goal.invariant_of-self
invariant_of-self g c = (
  enters_in_step _ _ _ _ _ _ _ _ c.apply-step_result.ensures.enters c.apply-step_result.ensures.legal c.add.ensures.total c.self.invariant.0,
  call_counted c.self.inside.archive.all.items c.self.inside.book c.apply-step_result.new.self _ _ _ _ _ _ c.apply-step_result.ensures.enters (c.requires.same ∙ sym c.deref.ensures) c.count_call.ensures c.self.invariant.1,
)

pub returns-clause-told : goal.returns-clause-told
returns-clause-told g c = (
  told_event _ _ c.apply-step_result.new.self.journal.notes c.receipt-receipt.ensures (c.newest_entered.ensures _ _ _ _ c.apply-step_result.ensures.enters) ∙ ap (Takes (view_of_peer c.args.taken.peer)) c.requires.same,
  c.add.ensures.amount,
)
