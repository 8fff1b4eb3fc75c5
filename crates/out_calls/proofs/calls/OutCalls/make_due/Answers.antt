use Rattle.std.proofs.Common.{rules, refl}
use Rattle.out_calls.proofs.Order.{in_order-push}
use Rattle.out_calls.proofs.calls.OutCalls.make_due.Goals as goal

pub invariant_of-self : goal.invariant_of-self
invariant_of-self c = (
  search rules,
  search rules,
  rw c.push_reserved.ensures.items (in_order-push c.self.inside.sent c.self.inside.calls.items c.new.result (rw c.new.ensures refl) c.self.invariant.2),
)
