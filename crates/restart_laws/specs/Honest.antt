-- Reclaims of locks after a restart: what is granted where all of them are honest, in whatever order and number they come.
use Rattle.std.specs.Prelude.{◌≡◌, ◌≢◌, ℕ, Bool, true, false, leb, List, [], ◌∷◌, ◌++◌, map, Option, Some, None}
use Rattle.definitions.specs.Bytes.{Bytes}
use Rattle.definitions.specs.Settings.{Setting, setting_of}
use Rattle.definitions.specs.Starts.{is_short}
use Rattle.definitions.specs.Quotas.{quotas_of, exceeds}
use Rattle.definitions.specs.Phases.{Grace}
use Rattle.definitions.specs.Nlm.{Version, NlmCall, Locks, LockMsg, NmLock, LockArgs, GRANTED}
use Rattle.definitions.specs.Ranges.{is_stale, is_too_far, request_of}
use Rattle.definitions.specs.Hosts.{StoreAnswer, Refused}
use Rattle.definitions.specs.Outgoing.{Callback, Outgoing}
use Rattle.definitions.specs.LockRules.{calls_after_lock}
use Rattle.definitions.specs.Replies.{Success, NoResult, ResResult}
use Rattle.definitions.specs.Shown.{res}
use Rattle.definitions.specs.World.{the_limits, slots_free}
use Rattle.definitions.specs.Answer.{lock_callback}
use Rattle.definitions.specs.Reclaims.{IsHonest}
use Rattle.definitions.specs.Step.{Peer, State, Given, Replies, look}

-- the lock that a LOCK, an NM_LOCK or a LOCK_MSG asks for
abbrev pub lock_of : NlmCall → Option LockArgs
lock_of (Locks a) = Some a
lock_of (NmLock a) = Some a
lock_of (LockMsg a) = Some a
lock_of _ = None

-- whether a place among the server's own calls is free for its answer, where that is a call
abbrev pub has_place : State → NlmCall → Bool
has_place s (LockMsg a) = leb 1 (slots_free the_limits s.world)
has_place s _ = true

-- in grace, a reclaim of a lock that is honest in the list and for which nothing is wanting: its reply isn't kept, its handle and
-- range are in order, 2 runs are free, its host's quota admits it, its answer finds a place, and the store doesn't refuse the row
pub record IsHonestReclaim (list : List Setting) (s : State) (peer : Peer) (asked : Bytes) (call : NlmCall) (a : LockArgs) (store : StoreAnswer) : Type 0 where
  pub lock : lock_of call ≡ Some a
  pub reclaim : a.reclaim ≡ true
  pub honest : IsHonest list (request_of a.exclusive a.alock)
  pub grace : s.world.phase ≡ Grace
  pub new : look s peer asked ≡ None
  pub fresh : is_stale a.alock.fh ≡ false
  pub near : is_too_far a.alock.l_offset a.alock.l_len ≡ false
  pub runs : is_short the_limits.runs s.world.settings ≡ false
  pub quota : exceeds (quotas_of s.world.hosts) s.world.settings (setting_of (request_of a.exclusive a.alock)) ≡ false
  pub place : has_place s call ≡ true
  pub row : store ≢ Refused

abbrev callbacks_of : List Outgoing → List Callback
callbacks_of calls = map (λ (c : Outgoing). c.callback) calls

-- the reply says GRANTED, or it is empty and the LOCK_RES behind it says so, behind the calls that were there, but for those
-- that the lock ends
abbrev pub TellsGranted : Version → NlmCall → LockArgs → ℕ → State → Given → State → Type 0
TellsGranted version (LockMsg b) a xid old given new =
    (given ≡ Replies xid (Success NoResult)) × (callbacks_of new.world.calls ≡ callbacks_of (calls_after_lock old.world.rules (request_of a.exclusive a.alock) old.world.calls) ++ lock_callback version a GRANTED ∷ [])
TellsGranted version _ a xid old given new = given ≡ Replies xid (Success (ResResult (res version a.cookie GRANTED)))

-- the lock is the newest setting, and its caller is told that it is granted
pub record IsGranted (version : Version) (call : NlmCall) (a : LockArgs) (xid : ℕ) (old : State) (given : Given) (new : State) : Type 0 where
  pub settings : new.world.settings ≡ old.world.settings ++ setting_of (request_of a.exclusive a.alock) ∷ []
  pub told : TellsGranted version call a xid old given new
