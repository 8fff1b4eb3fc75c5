use Rattle.std.proofs.Common.{rules, not, ap, ◌∙◌}
use Rattle.std.proofs.lemmas.Fn.{filter_same}
use Rattle.definitions.specs.Bytes.{list_without}
use Rattle.definitions.specs.LockRules.{tells_of}
use Rattle.definitions.specs.Outgoing.{Outgoing}
use Rattle.definitions.proofs.Lists.{filter-not}
use Rattle.std.specs.List.{position_or_len}
use Rattle.held_locks.specs.Asked.{view_of_request}
use Rattle.out_calls.proofs.Sendings.{due}
use Rattle.out_calls.proofs.Order.{in_order-kept}
use Rattle.out_calls.proofs.calls.OutCalls.end_grants.Goals as goal

pub invariant_of-self : goal.invariant_of-self
invariant_of-self c =
    let test = λ (d : Outgoing). tells_of (view_of_request c.args.wanted.now) d.callback.message in (
      search rules,
      search rules,
      in_order-kept test c.self.inside.sent c.self.inside.calls.items c.retain.new.self.items c.first_due-self-inside.result
          (filter_same _ (λ (d : Outgoing). not (test d)) _ (λ x b f' k. search rules) _ _ c.retain.ensures.filtered ∙ filter-not test c.self.inside.calls.items)
          (c.first_due-self-inside.ensures ∙ ap (position_or_len due) c.as_slice.ensures.value)
          c.self.invariant.2,
    )

pub returns : goal.returns
returns c =
    let test = λ (d : Outgoing). tells_of (view_of_request c.args.wanted.now) d.callback.message in
    filter_same _ (λ (d : Outgoing). not (test d)) _ (λ x b f' k. search rules) _ _ c.retain.ensures.filtered
    ∙ filter-not test c.self.inside.calls.items
    ∙ ap (list_without test) c.self.view_is
