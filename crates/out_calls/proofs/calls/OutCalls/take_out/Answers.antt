use Rattle.std.proofs.Common.{rules, arith}
use Rattle.out_calls.proofs.Order.{in_order-gone, in_order-gone_due}
use Rattle.out_calls.proofs.calls.OutCalls.take_out.Goals as goal

pub remove-call-requires : goal.remove-call-requires
remove-call-requires c =
    let within = rw (← c.self.view_is) at c.requires in
    omega (arith, within, c.self.inside.calls.ok.0)

pub overflow_sub-self : goal.overflow_sub-self
overflow_sub-self c = omega (arith, c.if-place-self.true)

pub invariant_of-self : goal.invariant_of-self
invariant_of-self c = (
  search rules,
  search rules,
  rw c.remove-call.ensures.items (in_order-gone c.self.inside.sent c.self.inside.calls.items c.args.place c.if-place-self.true c.self.invariant.2),
)

pub invariant_of-self-else-place-self : goal.invariant_of-self-else-place-self
invariant_of-self-else-place-self c = (
  search rules,
  search rules,
  rw c.remove-call.ensures.items (in_order-gone_due c.self.inside.sent c.self.inside.calls.items c.args.place c.if-place-self.false c.self.invariant.2),
)

pub returns-then-place-self-clause-call : goal.returns-then-place-self-clause-call
returns-then-place-self-clause-call c = rw c.self.view_is at c.remove-call.ensures.value

pub returns-then-place-self-clause-others : goal.returns-then-place-self-clause-others
returns-then-place-self-clause-others c = rw c.self.view_is at c.remove-call.ensures.items

pub returns-then-place-self-clause-room : goal.returns-then-place-self-clause-room
returns-then-place-self-clause-room c = omega (arith, c.remove-call.ensures.len, c.self.invariant.0)

pub returns-else-place-self-clause-call : goal.returns-else-place-self-clause-call
returns-else-place-self-clause-call c = rw c.self.view_is at c.remove-call.ensures.value

pub returns-else-place-self-clause-others : goal.returns-else-place-self-clause-others
returns-else-place-self-clause-others c = rw c.self.view_is at c.remove-call.ensures.items

pub returns-else-place-self-clause-room : goal.returns-else-place-self-clause-room
returns-else-place-self-clause-room c = omega (arith, c.remove-call.ensures.len, c.self.invariant.0)
