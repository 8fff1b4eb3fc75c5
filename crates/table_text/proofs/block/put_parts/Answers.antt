use Rattle.table_text.proofs.Passing.{WroteAllBut-part, failed-part}
use Rattle.table_text.proofs.block.put_parts.Goals as goal

pub loop-part-preserved : goal.loop-part-preserved
loop-part-preserved g c =
    WroteAllBut-part _ _ _ c.args.block.now _ _ (λ part. part.now) c.args.parts.now c.loop-part.part-index _ c.loop-part-test.true c.loop-part.invariant c.in_ok-put.ensures

pub returns-in_err-put : goal.returns-in_err-put
returns-in_err-put g c =
    failed-part _ _ _ c.from_residual.result c.args.block.now _ _ (λ part. part.now) c.args.parts.now c.loop-part.part-index _ c.loop-part-test.true c.from_residual.ensures.0
    c.loop-part.invariant c.in_err-put.ensures
