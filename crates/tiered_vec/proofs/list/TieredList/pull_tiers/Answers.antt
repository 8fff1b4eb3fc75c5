use Rattle.std.proofs.Common.{◌≡◌, ◌+◌, ◌-◌, ◌*◌, subst, ◌∙◌, arith}
use Rattle.tiered_vec.specs.Moves.{PulledIn}
use Rattle.tiered_vec.proofs.Pushes.{length-pulled, pulled_then}
use Rattle.tiered_vec.proofs.list.TieredList.pull_tiers.Goals as goal

pub loop-back-preserved : goal.loop-back-preserved
loop-back-preserved c =
    let xs = c.args.self.now in
    let ys = c.loop-back.self in
    let back = c.loop-back.back in
    let end = c.args.end in
    let zs = c.push_back-carried.new.self in
    let z = c.push_back-carried.result in
    let t = c.loop-back-test.true in
    let w = c.requires.within in
    let n = c.loop-back.invariant.long in
    let m = c.requires.long in
    let e : end - (back + 1) + 1 ≡ end - back = omega arith in
    record {
      pulled =
          pulled_then xs (256 * (end - (back + 1))) (256 * (end - back)) (256 * end) c.args.number ys c.loop-back.carried zs z (omega arith) (omega arith) (omega arith) c.loop-back.invariant.pulled
          (subst (λ k. PulledIn ys (256 * (end - (back + 1))) (256 * k) c.loop-back.carried zs z) e c.push_back-carried.ensures);
      long = length-pulled ys (256 * (end - (back + 1))) (256 * (end - (back + 1) + 1)) c.loop-back.carried zs z (omega arith) (omega arith) c.push_back-carried.ensures ∙ n;
    }
