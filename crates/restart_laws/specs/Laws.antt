-- What each step does to rows and to reclaims: one of the book (`Book::apply`), and so one of the daemon that takes a record, hears, asks or begins anew.
use Rattle.std.specs.Prelude.{◌≡◌, ℕ, true, List, Some}
use Rattle.definitions.specs.Bytes.{Bytes}
use Rattle.definitions.specs.Settings.{Setting, Request}
use Rattle.definitions.specs.Phases.{Grace}
use Rattle.definitions.specs.Nlm.{Version, NlmCall, LockArgs}
use Rattle.definitions.specs.Hosts.{has_row}
use Rattle.definition_laws.specs.Numbers.{is_beginning}
use Rattle.definitions.specs.Replies.{Call, Nlm, Asks}
use Rattle.definitions.specs.Reclaims.{AreCompatible, IsHonest, IsUnder}
use Rattle.definitions.specs.Moves.{IsReclaim}
use Rattle.definitions.specs.Step.{Peer, State, Take, Applied, look}
use Rattle.book.specs.Given.{StepResult}
use Rattle.book.specs.Notes.{JournalEvent, Steps}
use Rattle.restart_laws.specs.Rows.{monitored_by, tells_lock, telling, KeptHaveRows}
use Rattle.restart_laws.specs.Anew.{IsAnew}
use Rattle.restart_laws.specs.Honest.{IsHonestReclaim, IsGranted}

-- no step takes a row away
abbrev pub RowsStay : Type 0
RowsStay =
    (old new : State) (event : JournalEvent) (step_result : StepResult) → Steps old event step_result new → (name : Bytes)
    → has_row old.world.hosts name ≡ true → has_row new.world.hosts name ≡ true

-- where kept replies are of hosts with rows they stay so
abbrev pub KeptRowsStay : Type 0
KeptRowsStay = (old new : State) (event : JournalEvent) (step_result : StepResult) → Steps old event step_result new → KeptHaveRows old → KeptHaveRows new

-- and then a LOCK or LOCK_MSG that is done, or whose kept reply is given again, and is told that its lock is granted or waits, is of a host with a row
abbrev pub StandingHasRow : Type 0
StandingHasRow =
    (old new : State) (event : JournalEvent) (step_result : StepResult) (step : Steps old event step_result new) → KeptHaveRows old
    → (peer : Peer) (asked : Bytes) (xid : ℕ) (call : Call) (name : Bytes) → step.said ≡ Take peer asked (Asks xid call)
    → step_result.completion ≡ Applied
    → monitored_by call ≡ Some name → tells_lock (telling old peer call step_result.store (look old peer asked)) ≡ true → has_row new.world.hosts name ≡ true

-- a restart, and SM_SIMU_CRASH, that the store agreed to
abbrev pub BeginsAnew : Type 0
BeginsAnew =
    (old new : State) (event : JournalEvent) (step_result : StepResult) (step : Steps old event step_result new) → step_result.completion ≡ Applied
    → is_beginning step.said step_result.store ≡ true → IsAnew old new

-- and then the world is under every list
abbrev pub BeginsUnder : Type 0
BeginsUnder =
    (old new : State) (event : JournalEvent) (step_result : StepResult) (step : Steps old event step_result new) → step_result.completion ≡ Applied
    → is_beginning step.said step_result.store ≡ true → (list : List Setting) → IsUnder list new.world

-- in grace a step from a world under a list leads to one under it, unless its event is a reclaim that isn't honest in the list
abbrev pub StaysUnder : Type 0
StaysUnder =
    (list : List Setting) (old new : State) (event : JournalEvent) (step_result : StepResult) (step : Steps old event step_result new)
    → old.world.phase ≡ Grace → IsUnder list old.world → ((r : Request) → IsReclaim step.said r → IsHonest list r)
    → IsUnder list new.world

-- in a world under a list in which no exclusive mode stands beside another's, an honest reclaim that is done is granted
abbrev pub ReclaimIsGranted : Type 0
ReclaimIsGranted =
    (list : List Setting) → AreCompatible list
    → (old new : State) (event : JournalEvent) (step_result : StepResult) (step : Steps old event step_result new) → IsUnder list old.world
    → (peer : Peer) (asked : Bytes) (xid : ℕ) (version : Version) (call : NlmCall) (a : LockArgs)
    → step.said ≡ Take peer asked (Asks xid (Nlm version call)) → step_result.completion ≡ Applied
    → IsHonestReclaim list old peer asked call a step_result.store → IsGranted version call a xid old step_result.given new
