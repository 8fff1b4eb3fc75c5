use Rattle.std.proofs.Common.{◌+◌, refl, arith}
use Rattle.tiered_vec.proofs.Pushes.{pushed_one, pushed_then}
use Rattle.tiered_vec.proofs.cells.push_in.Goals as goal

pub loop-at-preserved : goal.loop-at-preserved
loop-at-preserved c =
    let ys = c.loop-at.cells in
    let at = c.loop-at.at in
    let n = c.loop-at.auto.cells in
    let t = c.loop-at-test.true in
    let w = c.requires.within in
    record {
      pushed =
          pushed_then c.args.cells.now c.args.begin at (at + 1) c.args.number ys c.loop-at.carried _ _ c.loop-at.auto.at (omega arith) (omega arith) c.loop-at.invariant.pushed
          (pushed_one ys at c.loop-at.carried _ _ (omega arith) refl refl);
    }
