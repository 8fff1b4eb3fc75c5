use Rattle.std.proofs.Common.{◌≡◌, ◌≤◌, ◌*◌, false, List, take}
use Rattle.definitions.specs.Bytes.{is_any}
use Rattle.definitions.specs.Settings.{Setting}
use Rattle.definitions.specs.Starts.{is_short}
use Rattle.owner_ids.specs.Names.{names_of_owners}
use Rattle.held_locks.specs.Stands.{Stands}
use Rattle.range_table.specs.Settings.{mode_at}
use Rattle.blocked_list.specs.Ready.{is_ready_on}
use Rattle.blocked_list.specs.Standing.{AreRunsOf}
use Rattle.blocked_list.specs.Waiting.{AreKnown, waiters_by}
use Rattle.blocked_list.proofs.slots.Slots.first_of_block.Given as goal

abbrev pub invariant-loop-place : goal.invariant-loop-place
invariant-loop-place g l = (settings : List Setting) → Stands (names_of_owners l.owners) (mode_at (g.T.RangeTable.settings l.table)) settings → AreKnown (names_of_owners l.owners) l.self.waiters → AreRunsOf (g.H.RunsOfHosts.runs l.hosts) settings → is_short 65536 settings ≡ false → is_any (is_ready_on l.touched (g.Q.Quotas.by_host l.quotas) settings) (take (l.block * 64) (waiters_by (names_of_owners l.owners) l.self.waiters)) ≡ false → is_any (is_ready_on l.touched (g.Q.Quotas.by_host l.quotas) settings) (take l.place (waiters_by (names_of_owners l.owners) l.self.waiters)) ≡ false
