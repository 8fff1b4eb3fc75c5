-- The same over every legal history.
use Rattle.std.specs.Prelude.{◌≡◌, ℕ, true, List, [], ◌∷◌, ◌++◌, Some}
use Rattle.definitions.specs.Bytes.{Bytes}
use Rattle.definitions.specs.Settings.{Setting}
use Rattle.definitions.specs.Nlm.{Version, NlmCall, LockArgs}
use Rattle.definitions.specs.Hosts.{Hosts, has_row}
use Rattle.definitions.specs.Moves.{AreHonest}
use Rattle.definitions.specs.Reclaims.{AreCompatible, IsUnder}
use Rattle.definitions.specs.Replies.{Call, Nlm, Asks}
use Rattle.definitions.specs.World.{Rules, the_limits}
use Rattle.definitions.specs.Step.{Peer, State, Take, Applied, look}
use Rattle.definitions.specs.Replay.{Entry, after, state_after, done_of, IsLegal as IsLegalFrom}
use Rattle.definition_laws.specs.Numbers.{is_beginning}
use Rattle.book.specs.Given.{StepResult}
use Rattle.book.specs.Notes.{JournalEvent, Steps}
use Rattle.book.specs.Journal.{Journal, AreEntriesOf, IsLegal}
use Rattle.book.specs.Histories.{IsHistory}
use Rattle.restart_laws.specs.Rows.{monitored_by, tells_lock, telling, KeptHaveRows}
use Rattle.restart_laws.specs.Honest.{IsHonestReclaim, IsGranted}

-- ---- rows

-- a row that is there stays
abbrev pub HistoriesKeepRows : Type 0
HistoriesKeepRows = (j : Journal) → IsLegal j → (name : Bytes) → has_row j.base.world.hosts name ≡ true → has_row j.end.world.hosts name ≡ true

-- a step from there that tells that a lock is granted or waits, a repeat among them, leaves a row of its host
abbrev pub StandingHaveRows : State → Type 0
StandingHaveRows old =
    (new : State) (event : JournalEvent) (step_result : StepResult) (step : Steps old event step_result new)
    → (peer : Peer) (asked : Bytes) (xid : ℕ) (call : Call) (host : Bytes) → step.said ≡ Take peer asked (Asks xid call)
    → step_result.completion ≡ Applied → monitored_by call ≡ Some host
    → tells_lock (telling old peer call step_result.store (look old peer asked)) ≡ true → has_row new.world.hosts host ≡ true

-- kept replies are of hosts with rows, and so is each call that is told that its lock is granted or waits
pub record MonitorsHosts (s : State) : Type 0 where
  pub kept : KeptHaveRows s
  pub standing : StandingHaveRows s

-- wherever a history from an opening has led
abbrev pub HistoriesMonitorHosts : Type 0
HistoriesMonitorHosts = (name : Bytes) (rules : Rules) (hosts : Hosts) (j : Journal) → IsHistory name rules hosts j → MonitorsHosts j.end

-- ---- reclaims

-- among the entries is a restart, or an SM_SIMU_CRASH of a local peer, that the store agreed to; each event since has found grace,
-- and each reclaim of a lock since is honest in the list
pub record IsHonestSince (list : List Setting) (j : Journal) : Type 0 where
  pub before : List Entry
  pub begun : Entry
  pub since : List Entry
  pub are : AreEntriesOf j.notes (before ++ begun ∷ since)
  pub legal : IsLegalFrom the_limits j.first j.base (before ++ begun ∷ since) j.end
  pub done : begun.done.completion ≡ Applied
  pub agreed : is_beginning begun.done.event begun.done.store ≡ true
  pub honest : AreHonest the_limits list (after the_limits (state_after the_limits j.base (done_of before)) begun.done).state (done_of since)

-- and then the world stays under the list
abbrev pub HonestHistoriesStayUnder : Type 0
HonestHistoriesStayUnder = (list : List Setting) (j : Journal) → IsHonestSince list j → IsUnder list j.end.world

-- so an honest reclaim is granted, whatever came since the restart, in whatever order and number
abbrev pub HonestHistoriesGrant : Type 0
HonestHistoriesGrant =
    (list : List Setting) → AreCompatible list → (j : Journal) → IsHonestSince list j
    → (new : State) (event : JournalEvent) (step_result : StepResult) (step : Steps j.end event step_result new)
    → (peer : Peer) (asked : Bytes) (xid : ℕ) (version : Version) (call : NlmCall) (a : LockArgs)
    → step.said ≡ Take peer asked (Asks xid (Nlm version call)) → step_result.completion ≡ Applied
    → IsHonestReclaim list j.end peer asked call a step_result.store → IsGranted version call a xid j.end step_result.given new
