use Rattle.job_queue.proofs.Moves.{forks}
use Rattle.job_queue.proofs.queue.Queue.cut.Goals as goal

pub another-requires-clause-rule : goal.another-requires-clause-rule
another-requires-clause-rule c = forks _ _ c.requires.keeps
