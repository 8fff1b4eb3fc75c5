use Rattle.std.proofs.Common.{◌≡◌, ◌++◌}
use Rattle.std.specs.Vec.Iter.{into_iter_items}
use Rattle.definitions.specs.World.{with_all_due}
use Rattle.lock_state.proofs.world.World.tell.Given as goal

abbrev pub invariant-loop-callback : goal.invariant-loop-callback
invariant-loop-callback g l =
    (goal.iterator-loop-callback g).can_next l.callback-iterator
    × (goal.iterator-loop-callback g).is_finite l.callback-iterator
    × (l.self.world ≡ with_all_due l.fn.self.world l.yielded)
    × (l.yielded ++ into_iter_items l.callback-iterator ≡ l.fn.callbacks.items)
    × (l.self.names ≡ l.fn.self.names)
    × (l.self.refusals ≡ l.fn.self.refusals)
