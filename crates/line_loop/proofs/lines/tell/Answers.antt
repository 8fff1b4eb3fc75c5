use Rattle.line_loop.proofs.LineLemmas.{flush_done, flush_failed}
use Rattle.line_loop.proofs.lines.tell.Goals as goal

pub returns-in-Ok : goal.returns-in-Ok
returns-in-Ok g c = flush_done _ _ _ _ c.in_ok-write_reply.ensures c.flush.ensures.bytes

pub returns-in-Err : goal.returns-in-Err
returns-in-Err g c = flush_failed _ _ _ _ c.in_ok-write_reply.ensures c.flush.ensures.bytes
