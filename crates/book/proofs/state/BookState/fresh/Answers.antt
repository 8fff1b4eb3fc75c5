use Rattle.std.proofs.Common.{sym, ap, ◌∙◌}
use Rattle.definitions.specs.Answer.{Answered}
use Rattle.definitions.specs.Step.{State}
use Rattle.kept_replies.specs.Pairs.{view_of_peer}
use Rattle.call_codec.specs.OutcomeValues.{view_of_outcome}
use Rattle.call_codec.specs.CallValues.{view_of_call}
use Rattle.lock_service.specs.MayAsk.{may_ask}
use Rattle.call_plans.specs.Planned.{view_of_stored, due_under, told_in}
use Rattle.book.proofs.Calls.{starved_early, starved_late, kept_asks, same_kept, done}
use Rattle.book.proofs.state.BookState.fresh.Goals as goal

pub returns-in_default-clause-step : goal.returns-in_default-clause-step
returns-in_default-clause-step g c =
    let s : State = record { world = c.self.inside.world.world; kept = c.self.inside.kept } in
    rw (← c.self.view_is, c.starved.ensures, c.in_default.ensures.err.0)
    (starved_early s (view_of_peer c.args.key.peer) c.args.key.record c.args.xid (view_of_call c.args.call.now))

pub returns-in-Ok-keep_or_abandon-clause-step : goal.returns-in-Ok-keep_or_abandon-clause-step
returns-in-Ok-keep_or_abandon-clause-step g c =
    let s : State = record { world = c.self.inside.world.world; kept = c.self.inside.kept } in
    let call = view_of_call c.args.call.now in
    let peer = view_of_peer c.args.key.peer in
    let store = view_of_stored c.in-Ok.store in
    let a : Answered = record { outcome = view_of_outcome c.commit-outcome.result.told.value; due = due_under store c.in-Ok.plan; world = c.commit-outcome.new.world.world } in
    let ruling = c.commit-outcome.ensures.answer s.world (rw c.in-Ok-keep_or_abandon.ensures.ready c.in-Ok.ensures.world) in
    let kept = c.in-Ok-keep_or_abandon.ensures.ok s.world ∙ same_kept peer c.args.key.record c.args.xid call (told_in c.told-told.result.now s.world) a s.kept
    (c.told-told.ensures.outcome s.world ∙ sym (ap (λ (x : Answered). x.outcome) ruling))
    (c.told-told.ensures.due s.world ∙ sym (ap (λ (x : Answered). x.due) ruling)) in
    let none = rw (← c.self.view_is) at c.requires in
    rw (← c.self.view_is, c.answers.ensures, c.settle.ensures.world, c.clear_at_restart.ensures, kept)
    (done s peer c.args.key.record c.args.xid call none c.in-Ok.plan store a c.in-Ok.ensures.plan ruling c.in-Ok.ensures.answer c.in-Ok.ensures.limit)

pub returns-in-Err-clause-step : goal.returns-in-Err-clause-step
returns-in-Err-clause-step g c =
    let s : State = record { world = c.self.inside.world.world; kept = c.self.inside.kept } in
    let none = rw (← c.self.view_is) at c.requires in
    rw (← c.self.view_is, c.starved-in-Err.ensures, c.in-Err.ensures.err.0, c.in-Ok.ensures.world, c.in-Err.ensures.stays)
    (starved_late s (view_of_peer c.args.key.peer) c.args.key.record c.args.xid (view_of_call c.args.call.now) none c.in-Ok.plan (view_of_stored c.in-Ok.store) (may_ask (view_of_call c.args.call.now)) c.in-Ok.ensures.plan c.in-Ok.ensures.asks (kept_asks (view_of_call c.args.call.now)) c.in-Err.ensures.fed c.in-Ok.ensures.answer c.in-Ok.ensures.limit)
