use Rattle.std.proofs.Common.{◌+◌, ◌-◌, refl, arith}
use Rattle.tiered_vec.proofs.Pushes.{pulled_one, pulled_then}
use Rattle.tiered_vec.proofs.cells.pull_in.Goals as goal

pub loop-back-preserved : goal.loop-back-preserved
loop-back-preserved c =
    let ys = c.loop-back.cells in
    let back = c.loop-back.back in
    let end = c.args.end in
    let n = c.loop-back.auto.cells in
    let t = c.loop-back-test.true in
    let w = c.requires.within in
    record {
      pulled =
          pulled_then c.args.cells.now (end - (back + 1)) (end - back) end c.args.number ys c.loop-back.carried _ _ (omega arith) (omega arith) (omega arith) c.loop-back.invariant.pulled
          (pulled_one ys (end - (back + 1)) (end - back) c.loop-back.carried _ _ (omega arith) (omega arith) refl refl);
    }
