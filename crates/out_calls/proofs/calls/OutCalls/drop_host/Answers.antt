use Rattle.std.proofs.Common.{rules, not, ap, ◌∙◌}
use Rattle.std.proofs.lemmas.Fn.{filter_same}
use Rattle.definitions.specs.Bytes.{list_without}
use Rattle.definitions.specs.Outgoing.{Outgoing, is_grant_to}
use Rattle.definitions.proofs.Lists.{filter-not}
use Rattle.std.specs.List.{position_or_len}
use Rattle.out_calls.proofs.Sendings.{due}
use Rattle.out_calls.proofs.Order.{in_order-kept}
use Rattle.out_calls.proofs.calls.OutCalls.drop_host.Goals as goal

pub invariant_of-self : goal.invariant_of-self
invariant_of-self c = (
  search rules,
  search rules,
  in_order-kept (is_grant_to c.args.name.now) c.self.inside.sent c.self.inside.calls.items c.retain.new.self.items c.first_due-self-inside.result
      (filter_same _ (λ (d : Outgoing). not (is_grant_to c.args.name.now d)) _ (λ x b f' k. search rules) _ _ c.retain.ensures.filtered ∙ filter-not (is_grant_to c.args.name.now) c.self.inside.calls.items)
      (c.first_due-self-inside.ensures ∙ ap (position_or_len due) c.as_slice.ensures.value)
      c.self.invariant.2,
)

pub returns : goal.returns
returns c =
    filter_same _ (λ (d : Outgoing). not (is_grant_to c.args.name.now d)) _ (λ x b f' k. search rules) _ _ c.retain.ensures.filtered
    ∙ filter-not (is_grant_to c.args.name.now) c.self.inside.calls.items
    ∙ ap (list_without (is_grant_to c.args.name.now)) c.self.view_is
