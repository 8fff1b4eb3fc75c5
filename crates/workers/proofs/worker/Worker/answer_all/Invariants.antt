use Rattle.std.proofs.Common.{◌≡◌, ◌++◌, false}
use Rattle.std.specs.Vec.Iter.{into_iter_items}
use Rattle.workers.specs.Reading.{Handled}
use Rattle.workers.proofs.worker.Worker.answer_all.Given as goal

abbrev pub invariant-loop-asked : goal.invariant-loop-asked
invariant-loop-asked g l =
    (goal.iterator-loop-asked g).can_next l.asked-iterator
    × (goal.iterator-loop-asked g).is_finite l.asked-iterator
    × Handled (g.G.Gate.MayAnswer l.fn.desk.gate.now) false l.yielded l.fn.origin l.origin l.fn.self l.self (g.O.Outbox.handed l.fn.outbox) (g.O.Outbox.handed l.outbox)
    × (l.yielded ++ into_iter_items l.asked-iterator ≡ l.fn.records.items)
