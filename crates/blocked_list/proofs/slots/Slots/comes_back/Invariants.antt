use Rattle.std.proofs.Common.{◌≡◌, List, length}
use Rattle.std.specs.Prelude.{IsSome}
use Rattle.definitions.specs.Settings.{Setting}
use Rattle.owner_ids.specs.Names.{names_of_owners}
use Rattle.held_locks.specs.Stands.{Stands}
use Rattle.range_table.specs.Settings.{mode_at}
use Rattle.blocked_list.specs.Waiting.{AreKnown, request_by, waiters_by}
use Rattle.blocked_list.proofs.Following.{IsSearched, unmarked}
use Rattle.blocked_list.proofs.slots.Slots.comes_back.Given as goal

abbrev pub invariant-loop-place : goal.invariant-loop-place
invariant-loop-place g l = record {
  wide : length l.reached ≡ 8192;
  long : length l.followed ≡ 8192;
  searched : (settings : List Setting) → Stands (names_of_owners l.owners) (mode_at (g.T.RangeTable.settings l.table)) settings → AreKnown (names_of_owners l.owners) l.self.waiters → IsSome (names_of_owners l.owners l.wanted.owner) → IsSearched settings (waiters_by (names_of_owners l.owners) l.self.waiters) (request_by (names_of_owners l.owners) l.wanted) l.reached l.followed;
}

abbrev pub decreases-loop-place : goal.decreases-loop-place
decreases-loop-place g l = unmarked l.followed
