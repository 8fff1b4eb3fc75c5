use Rattle.job_queue.proofs.Moves.{takes}
use Rattle.job_queue.proofs.queue.Queue.try_receive.Goals as goal

pub try_recv_as-requires-clause-rule : goal.try_recv_as-requires-clause-rule
try_recv_as-requires-clause-rule g c = (takes _ _ c.requires.works, λ items views h at. tt)
