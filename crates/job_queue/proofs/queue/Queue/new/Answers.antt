use Rattle.job_queue.proofs.Moves.{begins}
use Rattle.job_queue.proofs.queue.Queue.new.Goals as goal

pub bounded_with-requires-clause-rule : goal.bounded_with-requires-clause-rule
bounded_with-requires-clause-rule c = begins
