use Rattle.job_queue.proofs.Moves.{settles}
use Rattle.job_queue.proofs.queue.Queue.settle.Goals as goal

pub learn_as-requires-clause-rule : goal.learn_as-requires-clause-rule
learn_as-requires-clause-rule c = settles _ _ c.requires.keeps c.requires.all
