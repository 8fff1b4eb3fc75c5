-- Hosts under the rules of each call, line and answer: after the store call where it is agreed, and else as before.
use Rattle.std.proofs.Common.{◌≡◌, ℕ, ◌-◌, Bool, true, false, cond, not, ◌&&◌, eqb, leb, length, map, refl, Option, Some, None}
use Rattle.std.specs.Ordering.{int_eq}
use Rattle.definitions.specs.Bytes.{Bytes}
use Rattle.definitions.specs.Settings.{Mode, Setting, Request, setting_of}
use Rattle.definitions.specs.Conflict.{conflicts}
use Rattle.definitions.specs.Quotas.{quotas_of, lacks_room, is_refused}
use Rattle.definitions.specs.Shares.{is_denied, has_no_room}
use Rattle.definitions.specs.Phases.{Locking, Cancelling, Unlocking, Sharing, Unsharing}
use Rattle.definitions.specs.Nlm.{Version, Stat, GRANTED, DENIED, DENIED_NOLOCKS, BLOCKED, DEADLCK, DENIED_GRACE_PERIOD, Lock, LockArgs, CancelArgs, UnlockArgs, ShareArgs, NlmCall, Null, Test, Locks, Cancel, Unlock, TestMsg, LockMsg, CancelMsg, UnlockMsg, GrantedRes, ShareCall, Unshare, NmLock, FreeAll}
use Rattle.definitions.specs.Nsm.{NsmCall, SmNull, SmStat, SmMon, SmUnmon, SmUnmonAll, SmSimuCrash, SmNotify}
use Rattle.definitions.specs.Hosts.{HostRow, StoreCall, Begin, Seen, Yes, row_of, watches_of, after_store, Quota, has_row}
use Rattle.definitions.specs.Outgoing.{Outgoing, Callback, LocalLock, Message, Granted, GrantedMsg, Notify, Destination, ToHost, ToConnection, call_of_xid, call_of_cookie}
use Rattle.definitions.specs.Ranges.{range_refusal, file_refusal, request_of, unlock_of, line_unlock}
use Rattle.definitions.specs.Replies.{Call, Nlm, Nsm, SystemErr, AnswerReading, Unreadable, AcceptedSuccess, OtherAnswer, Line, GetLock, SetLock, SetLockWait, Close, Table, HostList, SetQuota, Stop, BadLine, LineReply, LineAbsent}
use Rattle.definitions.specs.Waits.{is_waiting, closes_cycle}
use Rattle.definitions.specs.World.{World, Limits, with_setting, with_waiter, with_hosts, slots_free, restart_callback, opening_with}
use Rattle.definitions.specs.Rulings.{Response, Ruling, decided_ruling, stays}
use Rattle.definitions.specs.LockRules.{LockAsk, with_lock, row_asked, after_row, free_lock, blocked_lock, lock_rules, unlock_rules, cancel_rules}
use Rattle.definitions.specs.Lines.{line_refusal, line_answer, quota_stored, set_unless, line_sets, line_ask}
use Rattle.definitions.specs.Grants.{TableChange, TableStays, TableChanges, world_without_call, became, grant_answered, granted_res_rules, granted_res_at, granted_res_of, notice_answered, ruling_on_success, answered_success, answered_otherwise, answer_rules}
use Rattle.definitions.specs.Answer.{Answered, gives, lock_ask, caller_row, lock_unless, lock_verdict, lock_msg_answer, cancel_unless, cancel_answer, unlock_unless, unlock_answer, if_slots, by_call, by_message, sent_back, test_callback, lock_callback, cancel_callback, unlock_callback, share_unless, share_of, unshare_unless, ruling_after_store, notified_answer, notify_rules, status_callback, nlm_answer, nsm_answer, ruling}
use Rattle.definitions.proofs.WorldLaws.{due_keeps}
use Rattle.definition_laws.specs.Asking.{hosts_after}
use Rattle.definitions.proofs.MoveLaws.{by_cond}

-- the world that is agreed has the hosts after the store call, and the other one those of before
abbrev pub Follows : World → Option StoreCall → World → World → Type 0
Follows w asks agreed refused = (agreed.hosts ≡ hosts_after w.hosts asks Yes) × (refused.hosts ≡ w.hosts)

abbrev Response_follows : World → Ruling (Response Stat) → Type 0
Response_follows w r = Follows w r.asks r.agreed.world r.refused.world

abbrev pub Answer_follows : World → Ruling Answered → Type 0
Answer_follows w r = Follows w r.asks r.agreed.world r.refused.world

abbrev pub Change_follows : World → Ruling (Response TableChange) → Type 0
Change_follows w r = Follows w r.asks r.agreed.world r.refused.world

-- ---- locks

row_follows : (w : World) (call : Option StoreCall) (stat : Stat) (change : World → World) → ((v : World) → (change v).hosts ≡ v.hosts) → Response_follows w (after_row w call stat change)
row_follows w None stat change f = (f w, f w)
row_follows w (Some call) stat change f = (f (with_hosts w (after_store w.hosts call)), refl)

lock_follows : (limits : Limits) (w : World) (a : LockAsk) → Response_follows w (lock_rules limits w a)
lock_follows limits w a =
    by_cond (Response_follows w) (conflicts w.settings a.request) (cond (a.block && not a.reclaim) (blocked_lock w a) (stays w DENIED)) (free_lock limits w a)
    (λ _. by_cond (Response_follows w) (a.block && not a.reclaim) (blocked_lock w a) (stays w DENIED) (λ _. blocked) (λ _. (refl, refl)))
    (λ _. by_cond (Response_follows w) (lacks_room limits.runs (quotas_of w.hosts) w.settings a.request) (stays w DENIED_NOLOCKS) (after_row w (row_asked w a.row) GRANTED (λ v. with_lock v a.request)) (λ _. (refl, refl)) (λ _. row_follows w (row_asked w a.row) GRANTED (λ v. with_lock v a.request) (λ v. refl)))
  where
    blocked : Response_follows w (blocked_lock w a)
    blocked =
        by_cond (Response_follows w) (is_waiting a.request w.waiters) (after_row w (row_asked w a.row) BLOCKED (λ v. v)) _ (λ _. row_follows w (row_asked w a.row) BLOCKED (λ v. v) (λ v. refl))
        (λ _. by_cond (Response_follows w) (closes_cycle w.settings w.waiters a.request) (stays w DEADLCK) _ (λ _. (refl, refl))
        (λ _. by_cond (Response_follows w) (eqb a.slots 0) (stays w DENIED_NOLOCKS) _ (λ _. (refl, refl))
        (λ _. row_follows w (row_asked w a.row) BLOCKED (λ v. with_waiter v (record { request = a.request; callback = a.callback })) (λ v. refl))))

unlock_follows : (limits : Limits) (w : World) (s : Setting) → Response_follows w (unlock_rules limits w s)
unlock_follows limits w s = by_cond (Response_follows w) (is_refused limits.runs (quotas_of w.hosts) w.settings s) (stays w DENIED_NOLOCKS) (decided_ruling (record { says = GRANTED; world = with_setting w s })) (λ _. (refl, refl)) (λ _. (refl, refl))

cancel_follows : (w : World) (r : Request) → Response_follows w (cancel_rules w r)
cancel_follows w r = by_cond (Response_follows w) (is_waiting r w.waiters) _ (stays w DENIED) (λ _. (refl, refl)) (λ _. (refl, refl))

verdict_follows : (limits : Limits) (w : World) (a : LockArgs) (ask : LockAsk) → Response_follows w (lock_verdict limits w a ask)
verdict_follows limits w a ask = go (range_refusal w (Locking a.reclaim) a.alock)
  where
    go : (o : Option Stat) → Response_follows w (lock_unless limits w ask o)
    go (Some stat) = (refl, refl)
    go None = lock_follows limits w ask

cancel_answer_follows : (w : World) (a : CancelArgs) → Response_follows w (cancel_answer w a)
cancel_answer_follows w a = go (range_refusal w Cancelling a.alock)
  where
    go : (o : Option Stat) → Response_follows w (cancel_unless w (request_of a.exclusive a.alock) o)
    go (Some stat) = (refl, refl)
    go None = cancel_follows w (request_of a.exclusive a.alock)

unlock_answer_follows : (limits : Limits) (w : World) (a : UnlockArgs) → Response_follows w (unlock_answer limits w a)
unlock_answer_follows limits w a = go (range_refusal w Unlocking a.alock)
  where
    go : (o : Option Stat) → Response_follows w (unlock_unless limits w a.alock o)
    go (Some stat) = (refl, refl)
    go None = unlock_follows limits w (unlock_of a.alock)

-- ---- answers to the server's own calls

grant_follows : (limits : Limits) (w : World) (c : Outgoing) (alock : Lock) (stat : Option Stat) → (grant_answered limits w c alock stat).world.hosts ≡ w.hosts
grant_follows limits w c alock (Some DENIED) =
    by_cond (λ (t : Response TableChange). t.world.hosts ≡ w.hosts) (is_refused limits.runs (quotas_of w.hosts) w.settings (unlock_of alock)) (became TableStays (world_without_call w c)) (became TableChanges (with_setting (world_without_call w c) (unlock_of alock))) (λ _. refl) (λ _. refl)
grant_follows limits w c alock (Some DENIED_GRACE_PERIOD) = refl
grant_follows limits w c alock _ = refl

granted_res_follows : (limits : Limits) (w : World) (cookie : Bytes) (stat : Stat) → (granted_res_rules limits w cookie stat).world.hosts ≡ w.hosts
granted_res_follows limits w cookie stat = go (call_of_cookie cookie w.calls)
  where
    by_message_of : (c : Outgoing) (m : Message) → (granted_res_of limits w stat c m).world.hosts ≡ w.hosts
    by_message_of c (GrantedMsg version exclusive alock) = grant_follows limits w c alock (Some stat)
    by_message_of c _ = refl

    go : (o : Option Outgoing) → (granted_res_at limits w stat o).world.hosts ≡ w.hosts
    go None = refl
    go (Some c) = by_message_of c c.callback.message

notice_follows : (w : World) (c : Outgoing) (to : Destination) → Change_follows w (notice_answered w c to)
notice_follows w c (ToHost name) = (refl, refl)
notice_follows w c (ToConnection l) = (refl, refl)

succeeded_follows : (limits : Limits) (w : World) (c : Outgoing) (stat : Option Stat) (m : Message) → Change_follows w (ruling_on_success limits w c stat m)
succeeded_follows limits w c stat (Granted version exclusive alock) = (grant_follows limits w c alock stat, grant_follows limits w c alock stat)
succeeded_follows limits w c stat (GrantedMsg version exclusive alock) = (refl, refl)
succeeded_follows limits w c stat (Notify name state) = notice_follows w c c.callback.to
succeeded_follows limits w c stat _ = (refl, refl)

pub answer_follows : (limits : Limits) (w : World) (reading : AnswerReading) → Change_follows w (answer_rules limits w reading)
answer_follows limits w Unreadable = (refl, refl)
answer_follows limits w (AcceptedSuccess xid stat) = go (call_of_xid xid w.calls)
  where
    go : (o : Option Outgoing) → Change_follows w (answered_success limits w stat o)
    go None = (refl, refl)
    go (Some c) = succeeded_follows limits w c stat c.callback.message
answer_follows limits w (OtherAnswer xid) = go (call_of_xid xid w.calls)
  where
    go : (o : Option Outgoing) → Change_follows w (answered_otherwise w o)
    go None = (refl, refl)
    go (Some c) = (refl, refl)

-- ---- calls

slots_follow : (n : ℕ) (limits : Limits) (w : World) (r : Ruling Answered) → Answer_follows w r → Answer_follows w (if_slots n limits w r)
slots_follow n limits w r h = by_cond (Answer_follows w) (leb n (slots_free limits w)) r (decided_ruling (gives w SystemErr)) (λ _. h) (λ _. (refl, refl))

message_follows : (limits : Limits) (w : World) (callback : Stat → Callback) (r : Ruling (Response Stat)) → Response_follows w r → Answer_follows w (by_message limits w callback r)
message_follows limits w callback r h = slots_follow 1 limits w (by_call callback r) h

share_follows : (limits : Limits) (w : World) (a : ShareArgs) (o : Option Stat) → (share_unless limits w a o).world.hosts ≡ w.hosts
share_follows limits w a (Some stat) = refl
share_follows limits w a None =
    by_cond (λ (t : Response Stat). t.world.hosts ≡ w.hosts) (is_denied w.shares (share_of a)) _ _ (λ _. refl)
    (λ _. by_cond (λ (t : Response Stat). t.world.hosts ≡ w.hosts) (has_no_room limits.shares w.shares (share_of a)) _ _ (λ _. refl) (λ _. refl))

unshare_follows : (w : World) (a : ShareArgs) (o : Option Stat) → (unshare_unless w a o).world.hosts ≡ w.hosts
unshare_follows w a (Some stat) = refl
unshare_follows w a None = refl

nlm_follows : (limits : Limits) (w : World) (version : Version) (call : NlmCall) → Answer_follows w (nlm_answer limits w version call)
nlm_follows limits w version Null = (refl, refl)
nlm_follows limits w version (Test a) = (refl, refl)
nlm_follows limits w version (Locks a) = verdict_follows limits w a (lock_ask a (caller_row a) (Granted version a.exclusive a.alock) (slots_free limits w))
nlm_follows limits w version (NmLock a) = verdict_follows limits w a (lock_ask a None (Granted version a.exclusive a.alock) (slots_free limits w))
nlm_follows limits w version (Cancel a) = cancel_answer_follows w a
nlm_follows limits w version (Unlock a) = unlock_answer_follows limits w a
nlm_follows limits w version (TestMsg a) = slots_follow 1 limits w (decided_ruling (sent_back (test_callback w version a) w)) (refl, refl)
nlm_follows limits w version (LockMsg a) = message_follows limits w (lock_callback version a) (lock_msg_answer limits w version a) (verdict_follows limits w a (lock_ask a (caller_row a) (GrantedMsg version a.exclusive a.alock) (slots_free limits w - 1)))
nlm_follows limits w version (CancelMsg a) = message_follows limits w (cancel_callback version a) (cancel_answer w a) (cancel_answer_follows w a)
nlm_follows limits w version (UnlockMsg a) = message_follows limits w (unlock_callback version a) (unlock_answer limits w a) (unlock_answer_follows limits w a)
nlm_follows limits w version (GrantedRes a) = (granted_res_follows limits w a.cookie a.stat, granted_res_follows limits w a.cookie a.stat)
nlm_follows limits w version (ShareCall a) = let h = share_follows limits w a (file_refusal w (Sharing a.reclaim) a.fh) in (h, h)
nlm_follows limits w version (Unshare a) = let h = unshare_follows w a (file_refusal w Unsharing a.fh) in (h, h)
nlm_follows limits w version (FreeAll name state) = (refl, refl)

nsm_follows : (limits : Limits) (w : World) (local : Bool) (call : NsmCall) → Answer_follows w (nsm_answer limits w local call)
nsm_follows limits w local SmNull = (refl, refl)
nsm_follows limits w local (SmStat name) = (refl, refl)
nsm_follows limits w true (SmMon name my bytes) = (refl, refl)
nsm_follows limits w false (SmMon name my bytes) = (refl, refl)
nsm_follows limits w true (SmUnmon name my) = (refl, refl)
nsm_follows limits w false (SmUnmon name my) = (refl, refl)
nsm_follows limits w true (SmUnmonAll my) = (refl, refl)
nsm_follows limits w false (SmUnmonAll my) = (refl, refl)
nsm_follows limits w true SmSimuCrash =
    let hosts = after_store w.hosts Begin in
    ((due_keeps (opening_with w.own_name w.rules hosts) (map (restart_callback w.own_name hosts.own) hosts.rows)).hosts, refl)
nsm_follows limits w false SmSimuCrash = (refl, refl)
nsm_follows limits w local (SmNotify name state) = go (row_of w.hosts name)
  where
    go : (o : Option HostRow) → Answer_follows w (notify_rules limits w name state o)
    go None = (refl, refl)
    go (Some row) =
        by_cond (Answer_follows w) (int_eq row.seen state) _ _ (λ _. (refl, refl))
        (λ _. slots_follow (length (watches_of w.hosts name)) limits w (ruling_after_store w (Seen name state) (notified_answer name state) (gives w SystemErr)) ((due_keeps _ (map (status_callback state) (watches_of (after_store w.hosts (Seen name state)) name))).hosts, refl))

pub call_follows : (limits : Limits) (w : World) (local : Bool) (call : Call) → Answer_follows w (ruling limits w local call)
call_follows limits w local (Nlm version call) = nlm_follows limits w version call
call_follows limits w local (Nsm call) = nsm_follows limits w local call

-- ---- lines

set_follows : (limits : Limits) (w : World) (l : ℕ) (block : Bool) (mode : Option Mode) (lock : LocalLock) (o : Option LineReply) → (set_unless limits w l block mode lock o).world.hosts ≡ w.hosts
set_follows limits w l block mode lock (Some refusal) = refl
set_follows limits w l block mode lock None = sets mode
  where
    sets : (mode : Option Mode) → (line_sets limits w l block mode lock).world.hosts ≡ w.hosts
    sets None = (unlock_follows limits w (line_unlock lock)).1
    sets (Some m) = (lock_follows limits w (line_ask l (slots_free limits w) block m lock)).1

abbrev pub Line_follows : World → Ruling (Response LineReply) → Type 0
Line_follows w r = Follows w r.asks r.agreed.world r.refused.world

pub line_follows : (limits : Limits) (w : World) (l : ℕ) (line : Line) → Line_follows w (line_answer limits w l line)
line_follows limits w l (GetLock mode lock) = (refl, refl)
line_follows limits w l (SetLock mode lock) = let h = set_follows limits w l false mode lock (line_refusal w lock) in (h, h)
line_follows limits w l (SetLockWait mode lock) = let h = set_follows limits w l true mode lock (line_refusal w lock) in (h, h)
line_follows limits w l (Close owner file) = (refl, refl)
line_follows limits w l Table = (refl, refl)
line_follows limits w l HostList = (refl, refl)
line_follows limits w l (SetQuota name runs) = by_cond (Line_follows w) (has_row w.hosts name) (quota_stored w (Quota name runs)) (stays w LineAbsent) (λ _. (refl, refl)) (λ _. (refl, refl))
line_follows limits w l Stop = (refl, refl)
line_follows limits w l BadLine = (refl, refl)
