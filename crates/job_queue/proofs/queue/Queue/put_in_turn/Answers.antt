use Rattle.job_queue.proofs.Moves.{puts}
use Rattle.job_queue.proofs.queue.Queue.put_in_turn.Goals as goal

pub send_as-requires-clause-rule : goal.send_as-requires-clause-rule
send_as-requires-clause-rule g c = (puts _ _ _ _ c.requires.works, λ items views h at. tt)
