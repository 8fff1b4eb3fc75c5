use Rattle.std.proofs.Common.{◌≡◌, ◌≤◌, ◌+◌, ◌*◌, false, List, length, take, sym, ap, subst, ◌∙◌, arith}
use Rattle.std.proofs.lemmas.List.{length-map}
use Rattle.definitions.specs.Bytes.{is_any}
use Rattle.owner_ids.specs.Names.{names_of_owners}
use Rattle.blocked_list.specs.Ready.{is_ready_on}
use Rattle.blocked_list.specs.Waiting.{waiter_by, waiters_by}
use Rattle.blocked_list.proofs.Bounded.{none_at_all, block_found, block_passed}
use Rattle.blocked_list.proofs.slots.Slots.first_of_all.Goals as goal

pub returns-then-is_some-clause-first : goal.returns-then-is_some-clause-first
returns-then-is_some-clause-first g c = λ settings h known counts enough.
    let test = is_ready_on c.args.touched.now (g.Q.Quotas.by_host c.args.quotas.now) settings in
    let k = c.loop-block.block in
    block_found test (waiters_by (names_of_owners c.args.owners.now) c.args.self.now.waiters) (k * 64) (k * 64 + 64) c.first_near-first.result (sym c.is_some.ensures ∙ c.if-is_some.true) (c.first_near-first.ensures.first settings h known counts enough) (c.loop-block.invariant settings h known counts enough)

pub loop-block-preserved : goal.loop-block-preserved
loop-block-preserved g c = λ settings h known counts enough.
    let test = is_ready_on c.args.touched.now (g.Q.Quotas.by_host c.args.quotas.now) settings in
    let xs = waiters_by (names_of_owners c.args.owners.now) c.args.self.now.waiters in
    let k = c.loop-block.block in
    let more : k * 64 + 64 ≡ (k + 1) * 64 = omega arith in
    subst (λ m. is_any test (take m xs) ≡ false) more
    (block_passed test xs (k * 64) (k * 64 + 64) c.first_near-first.result (sym c.is_some.ensures ∙ c.if-is_some.false) (c.first_near-first.ensures.first settings h known counts enough) (c.loop-block.invariant settings h known counts enough))

pub returns-clause-first : goal.returns-clause-first
returns-clause-first g c = λ settings h known counts enough.
    let ws = c.args.self.now.waiters in
    let xs = waiters_by (names_of_owners c.args.owners.now) ws in
    let long = length-map ws (waiter_by (names_of_owners c.args.owners.now)) in
    let few = c.free-free.ensures.most in
    let t = c.loop-block-test.false in
    none_at_all (is_ready_on c.args.touched.now (g.Q.Quotas.by_host c.args.quotas.now) settings) xs (c.loop-block.block * 64) (omega arith) (c.loop-block.invariant settings h known counts enough)
