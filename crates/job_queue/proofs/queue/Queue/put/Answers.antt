use Rattle.job_queue.proofs.Moves.{puts}
use Rattle.job_queue.proofs.queue.Queue.put.Goals as goal

pub try_send_as-requires-clause-rule : goal.try_send_as-requires-clause-rule
try_send_as-requires-clause-rule g c = (puts _ _ _ _ c.requires.works, λ items views h at. tt)
