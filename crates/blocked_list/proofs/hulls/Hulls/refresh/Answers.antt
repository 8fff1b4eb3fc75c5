use Rattle.std.proofs.Common.{arith}
use Rattle.blocked_list.proofs.Bounded.{in_next}
use Rattle.blocked_list.proofs.hulls.Hulls.refresh.Goals as goal

pub loop-place-preserved : goal.loop-place-preserved
loop-place-preserved c =
    let within = c.loop-place-test.true in
    let most = c.requires in
    rw c.widen.ensures (in_next c.args.waiters.now c.loop-place.place c.index-waiters-place.result c.wanted.result.now c.loop-place.self within (omega arith) c.index-waiters-place.is c.wanted.ensures.wanted c.loop-place.invariant)
