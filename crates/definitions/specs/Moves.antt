-- How an event may change the table, and what therefore holds after every step.
use Rattle.std.specs.Prelude.{◌≡◌, ◌≤◌, true, false, List, [], ◌∷◌, ◌++◌, None}
use Rattle.definitions.specs.Bytes.{Bytes, is_any}
use Rattle.definitions.specs.Owners.{Owner}
use Rattle.definitions.specs.Settings.{Setting, Request, setting_of, without_host, without_owner_on}
use Rattle.definitions.specs.Conflict.{conflicts}
use Rattle.definitions.specs.Phases.{Phase, Grace, Locking}
use Rattle.definitions.specs.Nlm.{Version, GRANTED, LockArgs, Locks, LockMsg, NmLock}
use Rattle.definitions.specs.Ranges.{range_refusal, request_of}
use Rattle.definitions.specs.Replies.{Call, Nlm, Nsm, Asks}
use Rattle.definitions.specs.Waits.{Waiter}
use Rattle.definitions.specs.World.{World, Rules, Limits, is_ready_in}
use Rattle.definitions.specs.Step.{State, Event, Take, Completion, step, opening_state_with}
use Rattle.definitions.specs.Replay.{Done, after, state_after}
use Rattle.definitions.specs.Starts.{is_short}
use Rattle.definitions.specs.Quotas.{quotas_of, exceeds}
use Rattle.definitions.specs.Answer.{lock_answer, nm_lock_answer, lock_msg_answer}
use Rattle.definitions.specs.Hosts.{Hosts, StoreAnswer}
use Rattle.definitions.specs.Reclaims.{AreCompatible, IsHonest, IsUnder}

-- one change of a table: none; a drop; an unlock; a lock that meets no conflict, in grace a reclaim; or all goes
pub data TableMove (Reclaimed : Request → Type 0) (phase : Phase) (before : List Setting) : List Setting → Type 0 where
  Stays : TableMove Reclaimed phase before before
  DropsHost : (name : Bytes) → TableMove Reclaimed phase before (without_host name before)
  DropsOwner : (file : Bytes) (owner : Owner) → TableMove Reclaimed phase before (without_owner_on file owner before)
  Unlocks : (s : Setting) → s.mode ≡ None → TableMove Reclaimed phase before (before ++ s ∷ [])
  Sets : (r : Request) → r.first ≤ r.last → conflicts before r ≡ false → (phase ≡ Grace → Reclaimed r)
      → TableMove Reclaimed phase before (before ++ setting_of r ∷ [])
  Empties : TableMove Reclaimed phase before []

-- each waiter waits for a range
abbrev pub AreRanges : List Waiter → Type 0
AreRanges [] = Unit {0}
AreRanges (x ∷ xs) = (x.request.first ≤ x.request.last) × AreRanges xs

-- what an event's own rules do, before settle
pub record Moves (Reclaimed : Request → Type 0) (w v : World) : Type 0 where
  pub table : TableMove Reclaimed w.phase w.settings v.settings
  pub ranges : AreRanges w.waiters → AreRanges v.waiters
  pub nobody : w.phase ≡ Grace → w.waiters ≡ [] → v.waiters ≡ []

-- ---- which locks an event reclaims

abbrev pub ReclaimedBy : LockArgs → Request → Type 0
ReclaimedBy a r = (a.reclaim ≡ true) × (r ≡ request_of a.exclusive a.alock)

abbrev pub IsReclaimOf : Call → Request → Type 0
IsReclaimOf (Nlm version (Locks a)) r = ReclaimedBy a r
IsReclaimOf (Nlm version (LockMsg a)) r = ReclaimedBy a r
IsReclaimOf (Nlm version (NmLock a)) r = ReclaimedBy a r
IsReclaimOf (Nlm version _) r = ⊥
IsReclaimOf (Nsm call) r = ⊥

abbrev pub IsReclaim : Event → Request → Type 0
IsReclaim (Take peer asked (Asks xid call)) r = IsReclaimOf call r
IsReclaim _ r = ⊥

-- ---- what holds after every step

-- no exclusive mode of one owner beside any of another; whoever waits, waits for a range; and nobody who waits is ready
pub record IsSound (limits : Limits) (w : World) : Type 0 where
  pub compatible : AreCompatible w.settings
  pub ranges : AreRanges w.waiters
  pub at_rest : is_any (is_ready_in limits w) w.waiters ≡ false

-- so whatever the event, its outcome and the store's answer
abbrev pub ExclusionLaw : Type 0
ExclusionLaw =
    (limits : Limits) (s : State) (event : Event) (completion : Completion) (store : StoreAnswer) → IsSound limits s.world
    → IsSound limits (step limits s event completion store).state.world

-- in grace a step from a world under a list leads to one under it, unless its event is a reclaim that isn't honest in the list
abbrev pub GraceLaw : Type 0
GraceLaw =
    (limits : Limits) (old : List Setting) (s : State) (event : Event) (completion : Completion) (store : StoreAnswer)
    → s.world.phase ≡ Grace → IsUnder old s.world → ((r : Request) → IsReclaim event r → IsHonest old r)
    → IsUnder old (step limits s event completion store).state.world

-- so it is after any events from the opening world, whatever was refused or starved
abbrev pub RunIsSound : Type 0
RunIsSound =
    (limits : Limits) (name : Bytes) (rules : Rules) (hosts : Hosts) (done : List Done)
    → IsSound limits (state_after limits (opening_state_with name rules hosts) done).world

-- each event finds grace, and each of its reclaims is honest in the list
abbrev pub AreHonest : Limits → List Setting → State → List Done → Type 0
AreHonest limits old s [] = Unit {0}
AreHonest limits old s (d ∷ done) =
    (s.world.phase ≡ Grace) × ((r : Request) → IsReclaim d.event r → IsHonest old r)
    × AreHonest limits old (after limits s d).state done

-- and then the world stays under the list
abbrev pub GraceRunLaw : Type 0
GraceRunLaw =
    (limits : Limits) (old : List Setting) (s : State) (done : List Done) → IsUnder old s.world → AreHonest limits old s done
    → IsUnder old (state_after limits s done).world

-- in grace an honest reclaim from a world under the list is granted, unless fewer than 2 runs are free, its host's quota doesn't
-- admit it, or the store refuses its row
abbrev pub HonestIsGranted : Type 0
HonestIsGranted =
    (limits : Limits) (old : List Setting) (w : World) (version : Version) (a : LockArgs) → w.phase ≡ Grace → AreCompatible old
    → IsUnder old w → a.reclaim ≡ true → range_refusal w (Locking a.reclaim) a.alock ≡ None
    → IsHonest old (request_of a.exclusive a.alock) → is_short limits.runs w.settings ≡ false
    → exceeds (quotas_of w.hosts) w.settings (setting_of (request_of a.exclusive a.alock)) ≡ false
    → ((lock_answer limits w version a).agreed.says ≡ GRANTED) × ((nm_lock_answer limits w version a).agreed.says ≡ GRANTED)
    × ((lock_msg_answer limits w version a).agreed.says ≡ GRANTED)

-- in grace, where nobody waits, a table gains a mode only by a reclaim
abbrev pub GraceGrantsLaw : Type 0
GraceGrantsLaw =
    (limits : Limits) (s : State) (event : Event) (completion : Completion) (store : StoreAnswer) → s.world.phase ≡ Grace
    → s.world.waiters ≡ []
    → TableMove (IsReclaim event) Grace s.world.settings (step limits s event completion store).state.world.settings
    × ((step limits s event completion store).state.world.waiters ≡ [])
