use Rattle.std.proofs.Common.{◌+◌, ◌*◌, ◌∙◌, arith}
use Rattle.tiered_vec.proofs.Pushes.{length-pushed, pushed_then}
use Rattle.tiered_vec.proofs.list.TieredList.push_tiers.Goals as goal

pub loop-tier-preserved : goal.loop-tier-preserved
loop-tier-preserved c =
    let xs = c.args.self.now in
    let ys = c.loop-tier.self in
    let tier = c.loop-tier.tier in
    let zs = c.push_front-carried.new.self in
    let z = c.push_front-carried.result in
    let t = c.loop-tier-test.true in
    let w = c.requires.within in
    let n = c.loop-tier.invariant.long in
    let m = c.requires.long in
    let o = c.loop-tier.auto.tier in
    record {
      pushed =
          pushed_then xs (256 * c.args.begin) (256 * tier) (256 * (tier + 1)) c.args.number ys c.loop-tier.carried zs z (omega arith) (omega arith) (omega arith) c.loop-tier.invariant.pushed
          c.push_front-carried.ensures;
      long = length-pushed ys (256 * tier) (256 * (tier + 1)) c.loop-tier.carried zs z (omega arith) (omega arith) c.push_front-carried.ensures ∙ n;
    }
