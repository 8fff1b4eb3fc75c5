use Rattle.std.proofs.Common.{subst, sym, ap, ◌≤◌, ◌+◌, ◌≡◌, ◌++◌, ◌∷◌, [], List, length, ◌∙◌, ℕ, arith}
use Rattle.blocked_list.specs.ByFile.{IsIndex, file_at}
use Rattle.blocked_list.specs.Waiting.{Waiting, Taken, AreNamed}
use Rattle.blocked_list.proofs.Parts.{index_pushed}
use Rattle.std.proofs.lemmas.List.{length_push}
use Rattle.std.specs.Vec.{vec_capacity}
use Rattle.range_table.specs.declared.run.Run.{Run}
use Rattle.blocked_list.proofs.Tallies.{counted_few, counted_more}
use Rattle.blocked_list.proofs.Bounded.{in_more}
use Rattle.blocked_list.proofs.Waits.{named_push}
use Rattle.blocked_list.proofs.slots.Slots.block.Goals as goal

pub returns-clause-named : goal.returns-clause-named
returns-clause-named c = rw (← c.self.view_is) (λ names h k. subst (AreNamed names) (sym c.push_reserved.ensures.items) (named_push names c.self.inside.waiters.items c.args.waiter h k))

pub add-requires-clause-before : goal.add-requires-clause-before
add-requires-clause-before c =
    let ws = c.self.inside.waiters.items in
    let at = c.deref.ensures.value ∙ c.push_reserved.ensures.items in
    let place : c.len-place.result ≡ length ws = (let e = c.len-place.ensures in let ok = c.self.inside.waiters.ok.0 in omega arith) in
    subst (λ (vs : List Waiting). IsIndex (file_at vs) c.len-place.result c.self.inside.by_file) (sym at)
    (subst (λ (n : ℕ). IsIndex (file_at (ws ++ c.args.waiter ∷ [])) n c.self.inside.by_file) (sym place)
    (index_pushed ws c.args.waiter c.self.inside.by_file c.self.invariant.2))

pub widen-requires : goal.widen-requires
widen-requires c =
    let some = c.if-free-eq0.false in
    let free = c.free.ensures.free in
    let same = ap (λ (t : Taken). length t.waiters) c.self.view_is in
    let l = c.len-place.ensures in
    let ok = c.self.inside.waiters.ok.0 in
    omega arith

pub add-requires-2 : goal.add-requires-2
add-requires-2 c =
    let ws = c.self.inside.waiters.items in
    let few = counted_few c.self.inside.by_owner c.wanted.result.now.owner ws c.self.invariant.3 in
    let some = c.if-free-eq0.false in
    let free = c.free.ensures.free in
    let same = ap (λ (t : Taken). length t.waiters) c.self.view_is in
    omega arith

pub invariant_of-self : goal.invariant_of-self
invariant_of-self c =
    let ws = c.self.inside.waiters.items in
    let items = c.push_reserved.ensures.items in
    let long = length_push ws c.args.waiter in
    let e = ap length items in
    let same = ap (λ (t : Taken). length t.waiters) c.self.view_is in
    let calls = ap (λ (t : Taken). t.calls) c.self.view_is in
    let some = c.if-free-eq0.false in
    let free = c.free.ensures.free in
    let small : length c.push_reserved.new.self.items + c.self.inside.calls ≤ 8192 = omega arith in
    let room : 8192 ≤ vec_capacity c.push_reserved.new.self = (let a = c.self.invariant.1 in let k = c.push_reserved.ensures.capacity in omega arith) in
    let at : c.deref.result.now ≡ c.push_reserved.new.self.items = c.deref.ensures.value in
    let place : c.len-place.result + 1 ≡ length c.push_reserved.new.self.items = (let l = c.len-place.ensures in let ok = c.self.inside.waiters.ok.0 in omega arith) in
    let is = sym (ap (λ (r : Run). r.owner) c.wanted.ensures.wanted) in (
      small,
      room,
      subst (λ n. IsIndex (file_at c.push_reserved.new.self.items) n c.add.new.self) place (subst (λ (vs : List Waiting). IsIndex (file_at vs) (c.len-place.result + 1) c.add.new.self) at c.add.ensures),
      rw (items, c.add-2.ensures) (counted_more c.self.inside.by_owner c.wanted.result.now.owner ws c.self.invariant.3 c.args.waiter is),
      rw (items, c.widen.ensures, c.wanted-2.ensures.wanted) (in_more ws c.args.waiter c.self.inside.hulls c.len-place.result (let l = c.len-place.ensures in let ok = c.self.inside.waiters.ok.0 in omega arith) (let l = c.len-place.ensures in let ok = c.self.inside.waiters.ok.0 in omega arith) c.self.invariant.4),
    )
