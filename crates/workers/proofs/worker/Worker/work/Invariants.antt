use Rattle.workers.specs.Answers.{Worked}
use Rattle.workers.proofs.worker.Worker.work.Given as goal

abbrev pub invariant-loop : goal.invariant-loop
invariant-loop g l = Worked (g.G.Gate.MayAnswer l.fn.gate) l.fn.self l.self (g.O.Outbox.handed l.fn.outbox) (g.O.Outbox.handed l.outbox)
