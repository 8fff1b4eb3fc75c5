-- The same over every list of events of the daemon.
use Rattle.std.specs.Prelude.{◌≡◌, ℕ, true, List, [], ◌∷◌, Some}
use Rattle.definitions.specs.Bytes.{Bytes}
use Rattle.definitions.specs.Settings.{Setting, Request}
use Rattle.definitions.specs.Phases.{Grace}
use Rattle.definitions.specs.Nlm.{Version, NlmCall, LockArgs}
use Rattle.definitions.specs.Hosts.{Hosts, Yes, has_row}
use Rattle.definitions.specs.Nsm.{SmSimuCrash}
use Rattle.definitions.specs.World.{Rules}
use Rattle.definitions.specs.Replies.{Call, Nlm, Nsm}
use Rattle.definitions.specs.Reclaims.{AreCompatible, IsHonest, IsUnder}
use Rattle.definitions.specs.Moves.{IsReclaim}
use Rattle.definitions.specs.Step.{Applied}
use Rattle.kept_replies.specs.Pairs.{view_of_peer}
use Rattle.call_plans.specs.Planned.{view_of_stored}
use Rattle.daemon_core.specs.declared.event.Event.{Event}
use Rattle.daemon_core.specs.declared.event.Event.TheVariants.{Take, Restart}
use Rattle.daemon_core.specs.declared.outputs.Outputs.{Outputs}
use Rattle.daemon_core.specs.Outcomes.{view_of_event_outcome}
use Rattle.daemon_core.specs.Outputs.{reply_to}
use Rattle.daemon_core.specs.DaemonState.{DaemonState, Answers, DaemonStep, Run, opening_with}
use Rattle.daemon_core.specs.Response.{IsCall, kept_of}
use Rattle.restart_laws.specs.Rows.{monitored_by, tells_lock, telling, KeptHaveRows}
use Rattle.restart_laws.specs.Anew.{IsAnew}
use Rattle.restart_laws.specs.Honest.{IsHonestReclaim, IsGranted}

-- ---- rows

-- a row that is there stays, whatever comes. From the opening on kept replies are of hosts with rows, and so is each call that is
-- told that its lock is granted or waits, a repeat among them
pub record RunsKeepRows : Type 0 where
  pub stay : (old new : DaemonState) (events : List Event) (outs : List Outputs) → Run old events outs new → (name : Bytes)
      → has_row old.state.world.hosts name ≡ true → has_row new.state.world.hosts name ≡ true
  pub kept : (name : Bytes) (rules : Rules) (hosts : Hosts) (refusals : ℕ) (events : List Event) (outs : List Outputs) (daemon_state : DaemonState)
      → Run (opening_with name rules hosts refusals) events outs daemon_state → KeptHaveRows daemon_state.state
  pub standing : (name : Bytes) (rules : Rules) (hosts : Hosts) (refusals : ℕ) (events : List Event) (outs : List Outputs) (daemon_state new : DaemonState)
      → Run (opening_with name rules hosts refusals) events outs daemon_state
      → (place i : ℕ) (out : Outputs) (taken : Answers place i daemon_state out new) (xid : ℕ) (call : Call) (host : Bytes)
      → IsCall taken xid call → view_of_event_outcome out.outcome ≡ Applied
      → monitored_by call ≡ Some host
      → tells_lock (telling daemon_state.state (view_of_peer taken.link.peer) call (view_of_stored out.store) (kept_of taken)) ≡ true
      → has_row new.state.world.hosts host ≡ true

-- ---- restarts

-- the event is a restart, or an SM_SIMU_CRASH of a local peer, which acts as one
pub data Begins (old : DaemonState) (out : Outputs) (new : DaemonState) : Type 0 where
  ByRestart : DaemonStep old Restart out new → Begins old out new
  ByCrash : {place i : ℕ} → (taken : Answers place i old out new) → (xid : ℕ) → IsCall taken xid (Nsm SmSimuCrash)
      → (view_of_peer taken.link.peer).local ≡ true → Begins old out new

-- and the store agreed to it
pub record IsBegun (old : DaemonState) (out : Outputs) (new : DaemonState) : Type 0 where
  pub begins : Begins old out new
  pub done : view_of_event_outcome out.outcome ≡ Applied
  pub agreed : view_of_stored out.store ≡ Yes

abbrev pub DaemonBeginsAnew : Type 0
DaemonBeginsAnew = (old new : DaemonState) (out : Outputs) → IsBegun old out new → IsAnew old.state new.state

-- ---- reclaims

-- if the event takes a record that reclaims a lock, that lock is honest in the list
abbrev pub ReclaimsHonestly : List Setting → Event → DaemonState → Outputs → DaemonState → Type 0
ReclaimsHonestly list (Take number i) old out new =
    (place : ℕ) (taken : Answers place i old out new) (r : Request) → IsReclaim taken.step.said r → IsHonest list r
ReclaimsHonestly list _ old out new = Unit {0}

-- each event finds grace, and each reclaim is honest in the list
abbrev pub AreHonest : List Setting → (old : DaemonState) (events : List Event) (outs : List Outputs) (new : DaemonState) → Run old events outs new → Type 0
AreHonest list old [] outs new run = Unit {0}
AreHonest list old (event ∷ events) [] new run = Unit {0}
AreHonest list old (event ∷ events) (out ∷ outs) new run =
    (old.state.world.phase ≡ Grace) × ReclaimsHonestly list event old out run.0 × AreHonest list run.0 events outs new run.2

-- a restart that the store agreed to, and then events in grace whose reclaims are honest
pub record ReclaimsAfterRestart (list : List Setting) (mid : DaemonState) : Type 0 where
  pub before : DaemonState
  pub begun : Outputs
  pub start : DaemonState
  pub restart : IsBegun before begun start
  pub events : List Event
  pub outs : List Outputs
  pub run : Run start events outs mid
  pub honest : AreHonest list start events outs mid run

-- the lock is granted, and the reply that says so goes to the connection that asked
pub record IsGrantedOnWire {place i : ℕ} {old new : DaemonState} {out : Outputs} (taken : Answers place i old out new) (version : Version) (call : NlmCall) (a : LockArgs) (xid : ℕ) : Type 0 where
  pub granted : IsGranted version call a xid old.state taken.given new.state
  pub sent : out.sent ≡ reply_to taken.link.number taken.given

-- whatever came since the restart, in whatever order and number, an honest reclaim is granted
abbrev pub HonestReclaimsAreGranted : Type 0
HonestReclaimsAreGranted =
    (list : List Setting) → AreCompatible list → (mid new : DaemonState) → ReclaimsAfterRestart list mid
    → (place i : ℕ) (out : Outputs) (taken : Answers place i mid out new) (xid : ℕ) (version : Version) (call : NlmCall) (a : LockArgs)
    → IsCall taken xid (Nlm version call) → view_of_event_outcome out.outcome ≡ Applied
    → IsHonestReclaim list mid.state (view_of_peer taken.link.peer) taken.bytes call a (view_of_stored out.store) → IsGrantedOnWire taken version call a xid

-- and until grace ends the world stays under the list
abbrev pub HonestRunsStayUnder : Type 0
HonestRunsStayUnder = (list : List Setting) (mid : DaemonState) → ReclaimsAfterRestart list mid → IsUnder list mid.state.world
