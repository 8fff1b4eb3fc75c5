use Rattle.std.proofs.lemmas.Result.{err_from_is_err_and}
use Rattle.pipe_loops.proofs.DueCalls.{lowers}
use Rattle.pipe_loops.proofs.AnsweredLemmas.{due-more, due-done, due-broken}
use Rattle.pipe_loops.proofs.pipe.send_due.Goals as goal

pub returns-in_err-send_next : goal.returns-in_err-send_next
returns-in_err-send_next g c =
    let p = err_from_is_err_and c.from_residual.result c.from_residual.ensures.1 in
    rw (p.1, p.2) (due-broken _ _ _ _ _ _ c.loop.invariant.0 c.loop.invariant.1 c.loop.invariant.2 c.in_err-send_next.field-0.0 c.in_err-send_next.ensures)

pub loop-smaller : goal.loop-smaller
loop-smaller g c =
    let s = rw c.if-branch.true at c.in_ok-send_next.ensures in
    lowers _ _ s.0 s.1 s.2

pub loop-preserved : goal.loop-preserved
loop-preserved g c =
    let s = rw c.if-branch.true at c.in_ok-send_next.ensures in
    due-more _ _ _ _ _ _ c.loop.invariant.0 c.loop.invariant.1 c.loop.invariant.2 s

pub returns : goal.returns
returns g c =
    let s = rw c.if-branch.false at c.in_ok-send_next.ensures in
    due-done _ _ _ _ _ _ c.loop.invariant.0 c.loop.invariant.1 c.loop.invariant.2 s
