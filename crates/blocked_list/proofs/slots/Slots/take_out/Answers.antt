use Rattle.std.proofs.Common.{◌<◌, ◌≤◌, ◌+◌, List, length, ap, sym, subst, arith}
use Rattle.std.proofs.lemmas.List.Edits.{length-remove}
use Rattle.std.specs.Vec.{vec_capacity}
use Rattle.range_table.specs.declared.run.Run.{Run}
use Rattle.blocked_list.specs.Hulls.{AreIn}
use Rattle.blocked_list.specs.Waiting.{Waiting}
use Rattle.blocked_list.proofs.Parts.{index_removed}
use Rattle.blocked_list.proofs.Tallies.{counted_some, counted_less}
use Rattle.blocked_list.proofs.slots.Slots.take_out.Goals as goal

pub remove-requires-2 : goal.remove-requires-2
remove-requires-2 c =
    let ws = c.self.inside.waiters.items in
    let below : c.args.place < length ws = (rw (← c.self.view_is) at c.requires) in
    let is = sym (ap (λ (r : Run). r.owner) c.wanted.ensures.wanted) in
    counted_some c.self.inside.by_owner c.wanted.result.now.owner ws c.self.invariant.3 c.args.place c.remove-waiter.result below c.remove-waiter.ensures.value is

pub refresh-requires : goal.refresh-requires
refresh-requires c =
    let ws = c.self.inside.waiters.items in
    let below : c.args.place < length ws = (rw (← c.self.view_is) at c.requires) in
    let less = length-remove ws c.args.place below in
    let e = ap length c.remove-waiter.ensures.items in
    let a = c.self.invariant.0 in
    let d = ap length c.deref.ensures.value in
    omega arith

pub invariant_of-self : goal.invariant_of-self
invariant_of-self c =
    let ws = c.self.inside.waiters.items in
    let below : c.args.place < length ws = (rw (← c.self.view_is) at c.requires) in
    let less = length-remove ws c.args.place below in
    let e = ap length c.remove-waiter.ensures.items in
    let i = c.self.invariant in
    let is = sym (ap (λ (r : Run). r.owner) c.wanted.ensures.wanted) in
    let small : length c.remove-waiter.new.self.items + c.self.inside.calls ≤ 8192 = (let a = i.0 in omega arith) in
    let room : 8192 ≤ vec_capacity c.remove-waiter.new.self = (let a = i.1 in let k = c.remove-waiter.ensures.capacity in omega arith) in (
      small,
      room,
      rw (c.remove-waiter.ensures.items, c.remove.ensures) (index_removed ws c.args.place c.self.inside.by_file below i.2),
      rw (c.remove-waiter.ensures.items, c.remove-2.ensures) (counted_less c.self.inside.by_owner c.wanted.result.now.owner ws i.3 c.args.place c.remove-waiter.result below c.remove-waiter.ensures.value is),
      subst (λ (vs : List Waiting). AreIn vs c.refresh.new.self) c.deref.ensures.value c.refresh.ensures,
    )

pub returns-clause-room : goal.returns-clause-room
returns-clause-room c =
    let ws = c.self.inside.waiters.items in
    let below : c.args.place < length ws = (rw (← c.self.view_is) at c.requires) in
    let less = length-remove ws c.args.place below in
    let e = ap length c.remove-waiter.ensures.items in
    let most = c.self.invariant.0 in
    omega arith
