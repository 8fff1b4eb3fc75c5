use Rattle.std.proofs.Common.{◌≡◌, ◌≤◌, ◌<◌, ◌+◌, ◌*◌, false, List, length, take, get_or, sym, ap, subst, ◌∙◌, arith}
use Rattle.std.proofs.lemmas.List.{length-map}
use Rattle.definitions.specs.Bytes.{is_any}
use Rattle.owner_ids.specs.Names.{names_of_owners}
use Rattle.blocked_list.specs.Ready.{is_ready_on}
use Rattle.blocked_list.specs.Waiting.{Taken, waiter_by, waiters_by}
use Rattle.blocked_list.proofs.Waits.{stands_at}
use Rattle.blocked_list.proofs.Ready.{here, uses, within, any_more, first_from}
use Rattle.blocked_list.proofs.Bounded.{none_behind}
use Rattle.blocked_list.proofs.slots.Slots.first_of_block.Goals as goal

pub returns-then-is_freed-clause-first : goal.returns-then-is_freed-clause-first
returns-then-is_freed-clause-first g c = λ settings h known counts enough none.
    let names = names_of_owners c.args.owners.now in
    let quotas = g.Q.Quotas.by_host c.args.quotas.now in
    let test = is_ready_on c.args.touched.now quotas settings in
    let ws = c.args.self.now.waiters in
    let w = c.index.result.now in
    let i = c.loop-place.place in
    let at = stands_at _ _ c.self.view_is i w (let ok = c.self.inside.waiters.ok.0 in let e = c.len.ensures in let t = c.loop-place-test.true in omega arith) c.index.ensures in
    let used = uses names quotas settings ws i w at.0 at.1 known.named in
    let free = sym c.if-is_freed.true ∙ c.is_freed.ensures settings h used enough counts in
    first_from test (waiters_by names ws) i (waiter_by names w) (within names quotas settings ws i w at.0 at.1) (c.loop-place.invariant settings h known counts enough none) (ap test (here names quotas settings ws i w at.0 at.1) ∙ sym free)

pub loop-place-preserved : goal.loop-place-preserved
loop-place-preserved g c = λ settings h known counts enough none.
    let names = names_of_owners c.args.owners.now in
    let quotas = g.Q.Quotas.by_host c.args.quotas.now in
    let test = is_ready_on c.args.touched.now quotas settings in
    let ws = c.args.self.now.waiters in
    let w = c.index.result.now in
    let i = c.loop-place.place in
    let at = stands_at _ _ c.self.view_is i w (let ok = c.self.inside.waiters.ok.0 in let e = c.len.ensures in let t = c.loop-place-test.true in omega arith) c.index.ensures in
    let used = uses names quotas settings ws i w at.0 at.1 known.named in
    let out = sym c.if-is_freed.false ∙ c.is_freed.ensures settings h used enough counts in
    any_more test (waiters_by names ws) i (waiter_by names w) (within names quotas settings ws i w at.0 at.1) (c.loop-place.invariant settings h known counts enough none) (ap test (here names quotas settings ws i w at.0 at.1) ∙ sym out)

pub returns-clause-first : goal.returns-clause-first
returns-clause-first g c = λ settings h known counts enough none.
    let ws = c.args.self.now.waiters in
    let xs = waiters_by (names_of_owners c.args.owners.now) ws in
    let long = length-map ws (waiter_by (names_of_owners c.args.owners.now)) in
    let same = ap (λ (s : Taken). length s.waiters) c.self.view_is in
    let ok = c.self.inside.waiters.ok.0 in
    let t = c.loop-place-test.false in
    let e = c.len.ensures in
    let end = c.min-end.ensures in
    none_behind (is_ready_on c.args.touched.now (g.Q.Quotas.by_host c.args.quotas.now) settings) xs c.loop-place.place (c.args.block * 64 + 64) (λ p l u v. omega (arith, l, u, v, long, same, ok, t, e, end)) (c.loop-place.invariant settings h known counts enough none)
