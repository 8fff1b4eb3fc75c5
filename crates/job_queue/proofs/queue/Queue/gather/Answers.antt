use Rattle.job_queue.proofs.Moves.{merges}
use Rattle.job_queue.proofs.queue.Queue.gather.Goals as goal

pub absorb-requires-clause-rule : goal.absorb-requires-clause-rule
absorb-requires-clause-rule c = merges _ _ _ _ c.requires.keeps c.requires.works c.requires.next
