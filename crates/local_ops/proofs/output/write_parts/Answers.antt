use Rattle.byte_io.proofs.Appending.{Wrote-failed}
use Rattle.local_ops.proofs.Writing.{WroteFront-parts}
use Rattle.local_ops.proofs.output.write_parts.Goals as goal

pub returns-in_err-write_whole : goal.returns-in_err-write_whole
returns-in_err-write_whole g c =
    Wrote-failed _ _ _ _ c.from_residual.ensures.0
    (WroteFront-parts (λ part. part.now) c.args.parts.now c.loop-part.part-index _ _ _ _ c.loop-part-test.true c.loop-part.invariant c.in_err-write_whole.ensures)
