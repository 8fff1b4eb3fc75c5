use Rattle.std.proofs.Common.{take, ap, sym, arith}
use Rattle.std.proofs.lemmas.List.{length-take-le}
use Rattle.range_table.specs.declared.run.Run.{Run}
use Rattle.blocked_list.proofs.Tallies.{counted_few, counted_next}
use Rattle.blocked_list.proofs.by_owner.ByOwner.renew.Goals as goal

pub add-requires : goal.add-requires
add-requires c =
    let ws = c.args.waiters.now in
    let i = c.loop-place.place in
    let few = counted_few c.loop-place.self c.wanted.result.now.owner (take i ws) c.loop-place.invariant in
    let within = c.loop-place-test.true in
    let most = c.requires in
    let long = length-take-le i ws (omega arith) in
    omega arith

pub loop-place-preserved : goal.loop-place-preserved
loop-place-preserved c =
    let is = sym (ap (λ (r : Run). r.owner) c.wanted.ensures.wanted) in
    rw c.add.ensures (counted_next c.args.waiters.now c.loop-place.place c.index-waiters-place.result c.loop-place.self c.wanted.result.now.owner c.loop-place-test.true c.index-waiters-place.is is c.loop-place.invariant)
