use Rattle.std.proofs.lemmas.Result.{err_from_is_err_and}
use Rattle.pipe_loops.specs.Pipe.{beginning}
use Rattle.pipe_loops.proofs.TableLemmas.{prints-nothing}
use Rattle.pipe_loops.proofs.table.print_stream.Goals as goal

pub returns-in_err-answer_stream : goal.returns-in_err-answer_stream
returns-in_err-answer_stream g c =
    let p = err_from_is_err_and c.from_residual.result c.from_residual.ensures.1 in
    rw (p.1, p.2) (prints-nothing (beginning c.args.is_grace) c.args.daemon.now c.args.bound c.in_err-answer_stream.field-0.0 _ _ _ c.answer_stream.new.daemon c.in_err-answer_stream.ensures)
