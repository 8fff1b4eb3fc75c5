use Rattle.std.proofs.Common.{refl}
use Rattle.definitions.specs.Replies.{BadLine, LineBad}
use Rattle.local_ops.specs.Calls.{view_of_local_call}
use Rattle.book.proofs.Lines.{answered, unanswered}
use Rattle.book.proofs.state.BookState.line.Goals as goal

pub returns-in-Ok-clause-ok : goal.returns-in-Ok-clause-ok
returns-in-Ok-clause-ok g c = answered _ _ c.args.connection c.args.bytes.now (view_of_local_call c.in-Ok.call) c.in-Ok.ensures c.asked.result c.asked.ensures.ok

pub returns-in-Ok-clause-err : goal.returns-in-Ok-clause-err
returns-in-Ok-clause-err g c = unanswered _ _ c.args.connection c.args.bytes.now (view_of_local_call c.in-Ok.call) c.in-Ok.ensures c.asked.result c.asked.ensures.err

pub returns-in-Err-clause-ok : goal.returns-in-Err-clause-ok
returns-in-Err-clause-ok g c =
    let l = c.args.connection in
    answered _ _ l c.args.bytes.now BadLine c.in-Err.ensures c.settled.result (c.settled.ensures.ok l BadLine LineBad (refl, refl) refl)

pub returns-in-Err-clause-err : goal.returns-in-Err-clause-err
returns-in-Err-clause-err g c =
    let l = c.args.connection in
    unanswered _ _ l c.args.bytes.now BadLine c.in-Err.ensures c.settled.result (c.settled.ensures.err l BadLine)
