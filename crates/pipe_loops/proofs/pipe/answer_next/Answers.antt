use Rattle.std.proofs.lemmas.Result.{err_from_is_err_and}
use Rattle.pipe_loops.proofs.AnsweredLemmas.{reply-broken, record-answered}
use Rattle.pipe_loops.proofs.pipe.answer_next.Goals as goal

pub returns-in_err-write_outputs : goal.returns-in_err-write_outputs
returns-in_err-write_outputs g c =
    let p = err_from_is_err_and c.from_residual.result c.from_residual.ensures.1 in
    rw (p.1, p.2) (reply-broken _ _ _ _ c.step-outputs.result c.step-outputs.ensures c.in_err-write_outputs.ensures)

pub returns : goal.returns
returns g c = record-answered _ _ _ _ _ _ c.step-outputs.result c.step-outputs.ensures c.send_due.result c.in_ok-write_outputs.ensures c.send_due.ensures
