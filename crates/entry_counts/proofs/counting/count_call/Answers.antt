use Rattle.std.proofs.Common.{ap, ◌∙◌}
use Rattle.book.specs.Given.{StepResult}
use Rattle.entry_counts.specs.Counted.{got_of, is_wanting, store_reply_of}
use Rattle.entry_counts.proofs.Adding.{call_counted}
use Rattle.entry_counts.proofs.counting.count_call.Goals as goal

pub returns : goal.returns
returns c peer =
    let is = c.step_result.view_is in
    call_counted _ _ _ peer _ c.args.step_result.now c.record_place.result c.got_of.result c.is_wanting.result c.store_reply_of.result
    c.record_place.ensures.is
    (c.got_of.ensures ∙ ap (λ (u : StepResult). got_of u.given) is)
    (c.is_wanting.ensures ∙ ap (λ (u : StepResult). is_wanting u.completion) is)
    (c.store_reply_of.ensures ∙ ap (λ (u : StepResult). store_reply_of u.store) is)
    c.add_call.ensures.calls c.add_call.ensures.events c.add_event.ensures.calls c.add_event.ensures.events
