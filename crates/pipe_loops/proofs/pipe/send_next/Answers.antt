use Rattle.std.proofs.Common.{refl}
use Rattle.std.proofs.lemmas.Result.{err_from_is_err_and}
use Rattle.daemon_core.specs.Outputs.{told_posted}
use Rattle.daemon_core.specs.declared.posted.Posted.TheVariants.{Sent}
use Rattle.pipe_loops.proofs.AnsweredLemmas.{send-broken}
use Rattle.pipe_loops.proofs.pipe.send_next.Goals as goal

pub returns-in_err-write-in-Sent : goal.returns-in_err-write-in-Sent
returns-in_err-write-in-Sent g c =
    let p = err_from_is_err_and c.from_residual.result c.from_residual.ensures.1 in
    rw (p.1, p.2) (send-broken _ _ _ (told_posted Sent c.send.new.send_buffer) c.in-Sent.ensures _ refl c.in_err-write-in-Sent.ensures)
