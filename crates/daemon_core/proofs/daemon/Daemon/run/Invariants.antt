use Rattle.std.proofs.Common.{◌≡◌, ◌++◌, ◌≤◌, length, vec_len, vec_capacity}
use Rattle.std.specs.Vec.Iter.{into_iter_items}
use Rattle.daemon_core.specs.DaemonState.{Run}
use Rattle.daemon_core.proofs.daemon.Daemon.run.Given as goal

abbrev pub invariant-loop-event : goal.invariant-loop-event
invariant-loop-event g l =
    (goal.iterator-loop-event g).can_next l.event-iterator
    × (goal.iterator-loop-event g).is_finite l.event-iterator
    × Run l.fn.self l.yielded l.outs.items l.self
    × (l.yielded ++ into_iter_items l.event-iterator ≡ l.fn.events.items)
    × (vec_len l.outs ≡ length l.yielded)
    × (length l.fn.events.items ≤ vec_capacity l.outs)
