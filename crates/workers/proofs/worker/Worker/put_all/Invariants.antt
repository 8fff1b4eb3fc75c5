use Rattle.std.proofs.Common.{◌≡◌, ◌++◌}
use Rattle.std.specs.Vec.Iter.{into_iter_items}
use Rattle.workers.specs.Reading.{HavePut}
use Rattle.workers.proofs.worker.Worker.put_all.Given as goal

abbrev pub invariant-loop-asked : goal.invariant-loop-asked
invariant-loop-asked g l =
    (goal.iterator-loop-asked g).can_next l.asked-iterator
    × (goal.iterator-loop-asked g).is_finite l.asked-iterator
    × HavePut l.yielded l.fn.origin l.origin l.fn.self l.self
    × (l.yielded ++ into_iter_items l.asked-iterator ≡ l.fn.records.items)
