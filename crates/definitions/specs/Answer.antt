-- What a call comes to: its reply, the calls that become due for it, and the world after it. One function a procedure.
use Rattle.std.specs.Prelude.{ℕ, ◌-◌, Bool, true, false, cond, leb, List, [], ◌∷◌, length, map, ℤ, pos, Option, Some, None}
use Rattle.std.specs.Ordering.{int_eq}
use Rattle.definitions.specs.Bytes.{Bytes}
use Rattle.definitions.specs.Settings.{Request}
use Rattle.definitions.specs.Starts.{Run, first_conflict}
use Rattle.definitions.specs.Shares.{Share, is_denied, has_no_room, with_share, without_share}
use Rattle.definitions.specs.Phases.{Testing, Locking, Sharing, Cancelling, Unlocking, Unsharing}
use Rattle.definitions.specs.Nlm.{Version, Stat, GRANTED, DENIED, DENIED_NOLOCKS, NlmCall, Null, Test, Locks, Cancel, Unlock, TestMsg, LockMsg, CancelMsg, UnlockMsg, GrantedRes, ShareCall, Unshare, NmLock, FreeAll, Lock, LockArgs, CancelArgs, TestArgs, UnlockArgs, ShareArgs, TestRes}
use Rattle.definitions.specs.Nsm.{NsmCall, SmNull, SmStat, SmMon, SmUnmon, SmUnmonAll, SmSimuCrash, SmNotify, STAT_SUCC, STAT_FAIL}
use Rattle.definitions.specs.Hosts.{HostRow, Watch, StoreCall, Begin, Seen, Watched, Unwatched, StoreAnswer, row_of, watches_of, after_store}
use Rattle.definitions.specs.Outgoing.{Callback, ToHost, Message, Granted, GrantedMsg, TestResult, LockResult, CancelResult, UnlockResult, Status}
use Rattle.definitions.specs.Ranges.{range_refusal, file_refusal, request_of, unlock_of}
use Rattle.definitions.specs.Replies.{Call, Nlm, Nsm, Result, NoResult, ResResult, TestResResult, ShareResult, MonitorResult, StateResult, Outcome, Success, SystemErr}
use Rattle.definitions.specs.World.{World, Limits, slots_free, with_hosts, with_due, with_all_due, without_host_of, restarted_world}
use Rattle.definitions.specs.Shown.{res, share_res, free_test, held_test}
use Rattle.definitions.specs.Rulings.{Response, Ruling, decided_ruling, stays, each, ruled_answer}
use Rattle.definitions.specs.LockRules.{LockAsk, NewHost, lock_rules, unlock_rules, cancel_rules}
use Rattle.definitions.specs.Grants.{granted_res_rules}

-- `due` are the calls that became due for the call itself; they stand in the world, too
pub record Answered : Type 0 where
  pub outcome : Outcome
  pub due : List Callback
  pub world : World

abbrev pub gives : World → Outcome → Answered
gives w outcome = record { outcome = outcome; due = []; world = w }

abbrev pub says : World → Result → Ruling Answered
says w result = decided_ruling (gives w (Success result))

-- ---- TEST, LOCK, CANCEL, UNLOCK, NM_LOCK: what each comes to, before it is known how it is told

abbrev pub test_shows : Version → Bytes → Option Run → TestRes
test_shows version cookie None = free_test version cookie GRANTED
test_shows version cookie (Some run) = held_test version cookie run

abbrev pub test_unless : World → Version → TestArgs → Option Stat → TestRes
test_unless w version a (Some stat) = free_test version a.cookie stat
test_unless w version a None = test_shows version a.cookie (first_conflict w.settings (request_of a.exclusive a.alock))

-- TEST: DENIED with the first conflict, or GRANTED
abbrev pub test_answer : World → Version → TestArgs → TestRes
test_answer w version a = test_unless w version a (range_refusal w Testing a.alock)

-- how a lock call is told of a grant, and which row it stores
abbrev pub lock_ask : LockArgs → Option NewHost → Message → ℕ → LockAsk
lock_ask a row message slots = record {
  request = request_of a.exclusive a.alock;
  block = a.block;
  reclaim = a.reclaim;
  row = row;
  callback = record { to = ToHost a.alock.caller_name; message = message };
  slots = slots;
}

abbrev pub caller_row : LockArgs → Option NewHost
caller_row a = Some (record { name = a.alock.caller_name; state = a.state })

abbrev pub lock_unless : Limits → World → LockAsk → Option Stat → Ruling (Response Stat)
lock_unless limits w ask (Some stat) = stays w stat
lock_unless limits w ask None = lock_rules limits w ask

abbrev pub lock_verdict : Limits → World → LockArgs → LockAsk → Ruling (Response Stat)
lock_verdict limits w a ask = lock_unless limits w ask (range_refusal w (Locking a.reclaim) a.alock)

-- LOCK, which stores a row; a waiter is called by GRANTED
abbrev pub lock_answer : Limits → World → Version → LockArgs → Ruling (Response Stat)
lock_answer limits w version a = lock_verdict limits w a (lock_ask a (caller_row a) (Granted version a.exclusive a.alock) (slots_free limits w))

-- NM_LOCK, which stores none
abbrev pub nm_lock_answer : Limits → World → Version → LockArgs → Ruling (Response Stat)
nm_lock_answer limits w version a = lock_verdict limits w a (lock_ask a None (Granted version a.exclusive a.alock) (slots_free limits w))

-- LOCK_MSG: as LOCK, but a waiter is called by GRANTED_MSG, and the slot of the LOCK_RES counts as taken
abbrev pub lock_msg_answer : Limits → World → Version → LockArgs → Ruling (Response Stat)
lock_msg_answer limits w version a =
    lock_verdict limits w a (lock_ask a (caller_row a) (GrantedMsg version a.exclusive a.alock) (slots_free limits w - 1))

abbrev pub cancel_unless : World → Request → Option Stat → Ruling (Response Stat)
cancel_unless w r (Some stat) = stays w stat
cancel_unless w r None = cancel_rules w r

-- CANCEL; its `block` is unused
abbrev pub cancel_answer : World → CancelArgs → Ruling (Response Stat)
cancel_answer w a = cancel_unless w (request_of a.exclusive a.alock) (range_refusal w Cancelling a.alock)

abbrev pub unlock_unless : Limits → World → Lock → Option Stat → Ruling (Response Stat)
unlock_unless limits w alock (Some stat) = stays w stat
unlock_unless limits w alock None = unlock_rules limits w (unlock_of alock)

abbrev pub unlock_answer : Limits → World → UnlockArgs → Ruling (Response Stat)
unlock_answer limits w a = unlock_unless limits w a.alock (range_refusal w Unlocking a.alock)

-- ---- how it is told, as the call's version shows it: as the reply's result, or by an empty reply and a call to the caller's host

abbrev pub answer_of_response : Version → Bytes → Response Stat → Answered
answer_of_response version cookie t = gives t.world (Success (ResResult (res version cookie t.says)))

abbrev pub to_caller : Lock → Message → Callback
to_caller alock message = record { to = ToHost alock.caller_name; message = message }

-- an empty reply, behind which this call is due
abbrev pub sent_back : Callback → World → Answered
sent_back callback w = record { outcome = Success NoResult; due = callback ∷ []; world = with_due w callback }

-- a call that needs more slots than are free changes nothing
abbrev pub if_slots : ℕ → Limits → World → Ruling Answered → Ruling Answered
if_slots needed limits w r = cond (leb needed (slots_free limits w)) r (decided_ruling (gives w SystemErr))

abbrev pub by_reply : Version → Bytes → Ruling (Response Stat) → Ruling Answered
by_reply version cookie r = each (answer_of_response version cookie) r

abbrev pub by_call : (Stat → Callback) → Ruling (Response Stat) → Ruling Answered
by_call callback r = each (λ (t : Response Stat). sent_back (callback t.says) t.world) r

-- a message form needs the slot of its _RES whatever that says, so this is tested first
abbrev pub by_message : Limits → World → (Stat → Callback) → Ruling (Response Stat) → Ruling Answered
by_message limits w callback r = if_slots 1 limits w (by_call callback r)

-- the calls that tell what a message form came to
abbrev pub test_callback : World → Version → TestArgs → Callback
test_callback w version a = to_caller a.alock (TestResult version (test_answer w version a))

abbrev pub lock_callback : Version → LockArgs → Stat → Callback
lock_callback version a stat = to_caller a.alock (LockResult version (res version a.cookie stat))

abbrev pub cancel_callback : Version → CancelArgs → Stat → Callback
cancel_callback version a stat = to_caller a.alock (CancelResult version (res version a.cookie stat))

abbrev pub unlock_callback : Version → UnlockArgs → Stat → Callback
unlock_callback version a stat = to_caller a.alock (UnlockResult version (res version a.cookie stat))

-- ---- SHARE, UNSHARE

abbrev pub share_of : ShareArgs → Share
share_of a = record { file = a.fh; name = a.caller_name; oh = a.oh; deny = a.mode; access = a.access }

abbrev pub share_told : Version → ShareArgs → Response Stat → Answered
share_told version a t = gives t.world (Success (ShareResult (share_res version a.cookie t.says)))

abbrev pub share_rules : Limits → World → Share → Response Stat
share_rules limits w new =
    cond (is_denied w.shares new) (record { says = DENIED; world = w })
    (cond (has_no_room limits.shares w.shares new) (record { says = DENIED_NOLOCKS; world = w })
    (record { says = GRANTED; world = record w { shares = with_share new w.shares } }))

abbrev pub share_unless : Limits → World → ShareArgs → Option Stat → Response Stat
share_unless limits w a (Some stat) = record { says = stat; world = w }
share_unless limits w a None = share_rules limits w (share_of a)

abbrev pub share_verdict : Limits → World → ShareArgs → Response Stat
share_verdict limits w a = share_unless limits w a (file_refusal w (Sharing a.reclaim) a.fh)

-- SHARE
abbrev pub share_answer : Limits → World → Version → ShareArgs → Answered
share_answer limits w version a = share_told version a (share_verdict limits w a)

abbrev pub unshare_unless : World → ShareArgs → Option Stat → Response Stat
unshare_unless w a (Some stat) = record { says = stat; world = w }
unshare_unless w a None = record { says = GRANTED; world = record w { shares = without_share (share_of a) w.shares } }

-- UNSHARE; its `reclaim` is unused
abbrev pub unshare_answer : World → Version → ShareArgs → Answered
unshare_answer w version a = share_told version a (unshare_unless w a (file_refusal w Unsharing a.fh))

-- ---- every NLM call

abbrev pub nlm_answer : Limits → World → Version → NlmCall → Ruling Answered
nlm_answer limits w version Null = says w NoResult
nlm_answer limits w version (Test a) = says w (TestResResult version (test_answer w version a))
nlm_answer limits w version (Locks a) = by_reply version a.cookie (lock_answer limits w version a)
nlm_answer limits w version (NmLock a) = by_reply version a.cookie (nm_lock_answer limits w version a)
nlm_answer limits w version (Cancel a) = by_reply version a.cookie (cancel_answer w a)
nlm_answer limits w version (Unlock a) = by_reply version a.cookie (unlock_answer limits w a)
nlm_answer limits w version (TestMsg a) = if_slots 1 limits w (decided_ruling (sent_back (test_callback w version a) w))
nlm_answer limits w version (LockMsg a) = by_message limits w (lock_callback version a) (lock_msg_answer limits w version a)
nlm_answer limits w version (CancelMsg a) = by_message limits w (cancel_callback version a) (cancel_answer w a)
nlm_answer limits w version (UnlockMsg a) = by_message limits w (unlock_callback version a) (unlock_answer limits w a)
nlm_answer limits w version (GrantedRes a) = says (granted_res_rules limits w a.cookie a.stat).world NoResult
nlm_answer limits w version (ShareCall a) = decided_ruling (share_answer limits w version a)
nlm_answer limits w version (Unshare a) = decided_ruling (unshare_answer w version a)
nlm_answer limits w version (FreeAll name state) = says (without_host_of w name) NoResult

-- ---- NSM

-- an answer that a store call comes before, with the answer where it is refused
abbrev pub ruling_after_store : World → StoreCall → (World → Answered) → Answered → Ruling Answered
ruling_after_store w call agreed refused = record { asks = Some call; agreed = agreed (with_hosts w (after_store w.hosts call)); refused = refused }

abbrev pub own_state : World → Result
own_state w = StateResult (pos w.hosts.own)

abbrev pub gives_state : World → Answered
gives_state w = gives w (Success (own_state w))

-- the call that a watcher of a restarted host gets
abbrev pub status_callback : ℤ → Watch → Callback
status_callback state x = record { to = ToHost x.my_id.my_name; message = Status x.my_id x.mon_name state x.private_bytes }

abbrev pub notified_answer : Bytes → ℤ → World → Answered
notified_answer name state w =
    let callbacks = map (status_callback state) (watches_of w.hosts name) in
    record { outcome = Success NoResult; due = callbacks; world = with_all_due (without_host_of w name) callbacks }

abbrev pub notify_rules : Limits → World → Bytes → ℤ → Option HostRow → Ruling Answered
notify_rules limits w name state None = says w NoResult
notify_rules limits w name state (Some row) =
    cond (int_eq row.seen state) (says w NoResult)
    (if_slots (length (watches_of w.hosts name)) limits w (ruling_after_store w (Seen name state) (notified_answer name state) (gives w SystemErr)))

-- SM_NOTIFY: a host with a row whose state is another than the one seen is dropped, and its watchers are called
abbrev pub notify_answer : Limits → World → Bytes → ℤ → Ruling Answered
notify_answer limits w name state = notify_rules limits w name state (row_of w.hosts name)

abbrev pub monitored_answer : World → Answered
monitored_answer w = gives w (Success (MonitorResult STAT_SUCC (pos w.hosts.own)))

abbrev pub not_monitored : World → Answered
not_monitored w = gives w (Success (MonitorResult STAT_FAIL (pos w.hosts.own)))

-- it acts as a restart that keeps the connections
abbrev pub crashed_answer : World → Answered
crashed_answer w = gives (restarted_world w w.hosts) (Success NoResult)

-- whether the peer is local decides whether SM_MON, SM_UNMON, SM_UNMON_ALL and SM_SIMU_CRASH act
abbrev pub nsm_answer : Limits → World → Bool → NsmCall → Ruling Answered
nsm_answer limits w local SmNull = says w NoResult
nsm_answer limits w local (SmStat name) = says w (MonitorResult STAT_SUCC (pos w.hosts.own))
nsm_answer limits w true (SmMon name my bytes) = ruling_after_store w (Watched name my bytes) monitored_answer (not_monitored w)
nsm_answer limits w false (SmMon name my bytes) = decided_ruling (not_monitored w)
nsm_answer limits w true (SmUnmon name my) = ruling_after_store w (Unwatched (Some name) my) gives_state (gives w SystemErr)
nsm_answer limits w false (SmUnmon name my) = decided_ruling (gives_state w)
nsm_answer limits w true (SmUnmonAll my) = ruling_after_store w (Unwatched None my) gives_state (gives w SystemErr)
nsm_answer limits w false (SmUnmonAll my) = decided_ruling (gives_state w)
nsm_answer limits w true SmSimuCrash = ruling_after_store w Begin crashed_answer (gives w SystemErr)
nsm_answer limits w false SmSimuCrash = says w NoResult
nsm_answer limits w local (SmNotify name state) = notify_answer limits w name state

-- ---- every call

abbrev pub ruling : Limits → World → Bool → Call → Ruling Answered
ruling limits w local (Nlm version call) = nlm_answer limits w version call
ruling limits w local (Nsm call) = nsm_answer limits w local call

-- what a call from a peer, local or not, comes to under the store's answer
abbrev pub answer : Limits → World → Bool → Call → StoreAnswer → Answered
answer limits w local call store = ruled_answer store (ruling limits w local call)
