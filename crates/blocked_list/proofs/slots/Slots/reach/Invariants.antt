use Rattle.std.proofs.Common.{◌≡◌, ◌<◌, ◌≤◌, ℕ, false, ◌||◌, List, length, Some}
use Rattle.std.specs.Prelude.{slice_get, slice_index_or, IsSome}
use Rattle.definitions.specs.Settings.{Setting}
use Rattle.definitions.specs.Waits.{Waiter}
use Rattle.owner_ids.specs.Names.{names_of_owners}
use Rattle.held_locks.specs.Stands.{Stands}
use Rattle.range_table.specs.Settings.{mode_at}
use Rattle.blocked_list.specs.Reach.{leads}
use Rattle.blocked_list.specs.Waiting.{AreKnown, request_by, waiters_by}
use Rattle.blocked_list.proofs.slots.Slots.reach.Given as goal

abbrev pub invariant-loop-place : goal.invariant-loop-place
invariant-loop-place g l = record {
  wide : length l.reached ≡ 8192;
  behind : (k : ℕ) → l.place ≤ k → slice_index_or l.reached k false ≡ slice_index_or l.fn.reached k false;
  front : (settings : List Setting) → Stands (names_of_owners l.owners) (mode_at (g.T.RangeTable.settings l.table)) settings → AreKnown (names_of_owners l.owners) l.self.waiters → IsSome (names_of_owners l.owners l.wanted.owner) → (k : ℕ) (x : Waiter) → k < l.place → slice_get (waiters_by (names_of_owners l.owners) l.self.waiters) k ≡ Some x → slice_index_or l.reached k false ≡ (slice_index_or l.fn.reached k false || leads settings (request_by (names_of_owners l.owners) l.wanted) x);
}
