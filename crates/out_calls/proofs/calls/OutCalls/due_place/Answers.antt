use Rattle.std.proofs.Common.{◌<◌, ◌≤◌, length, arith}
use Rattle.out_calls.proofs.Order.{in_order-first, in_order-none}
use Rattle.out_calls.proofs.calls.OutCalls.due_place.Goals as goal

pub returns-then-self-len : goal.returns-then-self-len
returns-then-self-len c =
    let t = c.if-self-len.true in
    let e = c.len.ensures in
    let ok = c.self.inside.calls.ok.0 in
    let l : c.self.inside.sent < length c.self.inside.calls.items = omega arith in
    rw (← c.self.view_is) (in_order-first c.self.inside.sent c.self.inside.calls.items l c.self.invariant.2)

pub returns-else-self-len : goal.returns-else-self-len
returns-else-self-len c =
    let f = c.if-self-len.false in
    let e = c.len.ensures in
    let ok = c.self.inside.calls.ok.0 in
    let l : length c.self.inside.calls.items ≤ c.self.inside.sent = omega arith in
    rw (← c.self.view_is) (in_order-none c.self.inside.sent c.self.inside.calls.items l c.self.invariant.2)
