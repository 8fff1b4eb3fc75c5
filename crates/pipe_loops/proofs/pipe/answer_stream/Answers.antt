use Rattle.std.proofs.lemmas.Result.{err_from_is_err_and}
use Rattle.pipe_loops.specs.Pipe.{beginning}
use Rattle.pipe_loops.proofs.PipeLemmas.{at-start, unbegun}
use Rattle.pipe_loops.proofs.pipe.answer_stream.Goals as goal

pub returns-in_err-begin : goal.returns-in_err-begin
returns-in_err-begin g c =
    let p = err_from_is_err_and c.from_residual.result c.from_residual.ensures.1 in
    let failed = c.in_err-begin.ensures in
    rw (p.1, p.2, failed.1) (unbegun (beginning c.args.is_grace) c.args.daemon.now _ c.args.bound failed.0 _ _ _ failed.2 failed.3)

pub returns : goal.returns
returns g c = c.answer_pieces.ensures (beginning c.args.is_grace) c.args.daemon.now _ _ (at-start c.args.is_grace c.args.daemon.now _ _ _ c.in_ok-begin.ensures)
