-- Where the store isn't asked there is one outcome, and what starved leaves all but hosts as it was.
use Rattle.std.proofs.Common.{◌≡◌, ◌≢◌, ℕ, ◌-◌, Bool, true, false, cond, not, ◌&&◌, eqb, leb, length, refl, sym, ap, Option, Some, None}
use Rattle.std.proofs.lemmas.Bool.{true≢false}
use Rattle.std.proofs.lemmas.Option.{none-some}
use Rattle.std.specs.Ordering.{int_eq}
use Rattle.definitions.specs.Bytes.{Bytes}
use Rattle.definitions.specs.Settings.{Setting, Request, setting_of}
use Rattle.definitions.specs.Conflict.{conflicts}
use Rattle.definitions.specs.Quotas.{quotas_of, lacks_room, is_refused}
use Rattle.definitions.specs.Phases.{Locking, Cancelling, Unlocking}
use Rattle.definitions.specs.Nlm.{Version, Stat, GRANTED, DENIED, DENIED_NOLOCKS, BLOCKED, DEADLCK, LockArgs, CancelArgs, UnlockArgs, NlmCall, Null, Test, Locks, Cancel, Unlock, TestMsg, LockMsg, CancelMsg, UnlockMsg, GrantedRes, ShareCall, Unshare, NmLock, FreeAll}
use Rattle.definitions.specs.Nsm.{NsmCall, SmNull, SmStat, SmMon, SmUnmon, SmUnmonAll, SmSimuCrash, SmNotify}
use Rattle.definitions.specs.Hosts.{HostRow, StoreCall, Begin, Seen, Watched, Unwatched, StoreAnswer, NotAsked, Yes, Refused, row_of, watches_of}
use Rattle.definitions.specs.Outgoing.{Outgoing, Callback, Message, Granted, GrantedMsg, Notify, Destination, ToHost, ToConnection, call_of_xid}
use Rattle.definitions.specs.Ranges.{range_refusal, request_of, unlock_of}
use Rattle.definitions.specs.Replies.{Call, Nlm, Nsm, SystemErr, Ignored, Turned, Asks, AnswerReading, Unreadable, AcceptedSuccess, OtherAnswer}
use Rattle.definitions.specs.Waits.{is_waiting, closes_cycle}
use Rattle.definitions.specs.World.{World, Limits, with_setting, with_waiter, with_hosts, slots_free}
use Rattle.definitions.specs.Rulings.{Response, Ruling, decided_ruling, stays, each}
use Rattle.definitions.specs.LockRules.{LockAsk, with_lock, row_asked, after_row, free_lock, blocked_lock, lock_rules, unlock_rules, cancel_rules}
use Rattle.definitions.specs.Grants.{TableChange, notice_answered, ruling_on_success, answered_success, answered_otherwise, answer_rules}
use Rattle.definitions.specs.Answer.{Answered, gives, lock_ask, caller_row, lock_unless, lock_verdict, cancel_unless, cancel_answer, unlock_unless, unlock_answer, if_slots, by_reply, answer_of_response, by_call, by_message, sent_back, test_callback, lock_callback, cancel_callback, unlock_callback, ruling_after_store, notified_answer, notify_rules, nlm_answer, nsm_answer, ruling}
use Rattle.definitions.specs.Step.{State, Event, Take, Local, Starved, step, with_world, with_row_stored, store_call}
use Rattle.definition_laws.specs.Asking.{IsUnasked, UnaskedLaw, StarvedLaw}
use Rattle.definitions.proofs.MoveLaws.{by_cond}

-- no other answer of the store is a yes
agrees : StoreAnswer → Bool
agrees Yes = true
agrees NotAsked = false
agrees Refused = false

pub not_asked : NotAsked ≢ Yes
unfolding agrees
not_asked e = true≢false (sym (ap agrees e))

pub refused_is_no_yes : Refused ≢ Yes
unfolding agrees
refused_is_no_yes e = true≢false (sym (ap agrees e))

abbrev Response_unasked : Ruling (Response Stat) → Type 0
Response_unasked r = IsUnasked r

row_unasked : (w : World) (call : Option StoreCall) (stat : Stat) (change : World → World) → Response_unasked (after_row w call stat change)
row_unasked w None stat change = λ e. refl
row_unasked w (Some call) stat change = λ e. absurd (none-some call (sym e))

lock_unasked : (limits : Limits) (w : World) (a : LockAsk) → Response_unasked (lock_rules limits w a)
lock_unasked limits w a =
    by_cond Response_unasked (conflicts w.settings a.request) (cond (a.block && not a.reclaim) (blocked_lock w a) (stays w DENIED)) (free_lock limits w a)
    (λ _. by_cond Response_unasked (a.block && not a.reclaim) (blocked_lock w a) (stays w DENIED) (λ _. blocked) (λ _ e. refl))
    (λ _. by_cond Response_unasked (lacks_room limits.runs (quotas_of w.hosts) w.settings a.request) (stays w DENIED_NOLOCKS) (after_row w (row_asked w a.row) GRANTED (λ v. with_lock v a.request)) (λ _ e. refl) (λ _. row_unasked w (row_asked w a.row) GRANTED (λ v. with_lock v a.request)))
  where
    blocked : Response_unasked (blocked_lock w a)
    blocked =
        by_cond Response_unasked (is_waiting a.request w.waiters) (after_row w (row_asked w a.row) BLOCKED (λ v. v)) _ (λ _. row_unasked w (row_asked w a.row) BLOCKED (λ v. v))
        (λ _. by_cond Response_unasked (closes_cycle w.settings w.waiters a.request) (stays w DEADLCK) _ (λ _ e. refl)
        (λ _. by_cond Response_unasked (eqb a.slots 0) (stays w DENIED_NOLOCKS) _ (λ _ e. refl)
        (λ _. row_unasked w (row_asked w a.row) BLOCKED (λ v. with_waiter v (record { request = a.request; callback = a.callback })))))

unlock_unasked : (limits : Limits) (w : World) (s : Setting) → Response_unasked (unlock_rules limits w s)
unlock_unasked limits w s = by_cond Response_unasked (is_refused limits.runs (quotas_of w.hosts) w.settings s) (stays w DENIED_NOLOCKS) (decided_ruling (record { says = GRANTED; world = with_setting w s })) (λ _ e. refl) (λ _ e. refl)

cancel_unasked : (w : World) (r : Request) → Response_unasked (cancel_rules w r)
cancel_unasked w r = by_cond Response_unasked (is_waiting r w.waiters) _ (stays w DENIED) (λ _ e. refl) (λ _ e. refl)

verdict_unasked : (limits : Limits) (w : World) (a : LockArgs) (ask : LockAsk) → Response_unasked (lock_verdict limits w a ask)
verdict_unasked limits w a ask = go (range_refusal w (Locking a.reclaim) a.alock)
  where
    go : (o : Option Stat) → Response_unasked (lock_unless limits w ask o)
    go (Some stat) = λ e. refl
    go None = lock_unasked limits w ask

cancel_answer_unasked : (w : World) (a : CancelArgs) → Response_unasked (cancel_answer w a)
cancel_answer_unasked w a = go (range_refusal w Cancelling a.alock)
  where
    go : (o : Option Stat) → Response_unasked (cancel_unless w (request_of a.exclusive a.alock) o)
    go (Some stat) = λ e. refl
    go None = cancel_unasked w (request_of a.exclusive a.alock)

unlock_answer_unasked : (limits : Limits) (w : World) (a : UnlockArgs) → Response_unasked (unlock_answer limits w a)
unlock_answer_unasked limits w a = go (range_refusal w Unlocking a.alock)
  where
    go : (o : Option Stat) → Response_unasked (unlock_unless limits w a.alock o)
    go (Some stat) = λ e. refl
    go None = unlock_unasked limits w (unlock_of a.alock)

abbrev Answer_unasked : Ruling Answered → Type 0
Answer_unasked r = IsUnasked r

told_unasked : (f : Response Stat → Answered) (r : Ruling (Response Stat)) → Response_unasked r → Answer_unasked (each f r)
told_unasked f r h = λ e. ap f (h e)

slots_unasked : (n : ℕ) (limits : Limits) (w : World) (r : Ruling Answered) → Answer_unasked r → Answer_unasked (if_slots n limits w r)
slots_unasked n limits w r h = by_cond Answer_unasked (leb n (slots_free limits w)) r (decided_ruling (gives w SystemErr)) (λ _. h) (λ _ e. refl)

reply_unasked : (version : Version) (cookie : Bytes) (r : Ruling (Response Stat)) → Response_unasked r → Answer_unasked (by_reply version cookie r)
reply_unasked version cookie r h = told_unasked (answer_of_response version cookie) r h

message_unasked : (limits : Limits) (w : World) (callback : Stat → Callback) (r : Ruling (Response Stat)) → Response_unasked r → Answer_unasked (by_message limits w callback r)
message_unasked limits w callback r h = slots_unasked 1 limits w (by_call callback r) (told_unasked (λ t. sent_back (callback t.says) t.world) r h)

nlm_unasked : (limits : Limits) (w : World) (version : Version) (call : NlmCall) → Answer_unasked (nlm_answer limits w version call)
nlm_unasked limits w version Null = λ e. refl
nlm_unasked limits w version (Test a) = λ e. refl
nlm_unasked limits w version (Locks a) = reply_unasked version a.cookie _ (verdict_unasked limits w a (lock_ask a (caller_row a) (Granted version a.exclusive a.alock) (slots_free limits w)))
nlm_unasked limits w version (NmLock a) = reply_unasked version a.cookie _ (verdict_unasked limits w a (lock_ask a None (Granted version a.exclusive a.alock) (slots_free limits w)))
nlm_unasked limits w version (Cancel a) = reply_unasked version a.cookie _ (cancel_answer_unasked w a)
nlm_unasked limits w version (Unlock a) = reply_unasked version a.cookie _ (unlock_answer_unasked limits w a)
nlm_unasked limits w version (TestMsg a) = slots_unasked 1 limits w (decided_ruling (sent_back (test_callback w version a) w)) (λ e. refl)
nlm_unasked limits w version (LockMsg a) = message_unasked limits w (lock_callback version a) _ (verdict_unasked limits w a (lock_ask a (caller_row a) (GrantedMsg version a.exclusive a.alock) (slots_free limits w - 1)))
nlm_unasked limits w version (CancelMsg a) = message_unasked limits w (cancel_callback version a) _ (cancel_answer_unasked w a)
nlm_unasked limits w version (UnlockMsg a) = message_unasked limits w (unlock_callback version a) _ (unlock_answer_unasked limits w a)
nlm_unasked limits w version (GrantedRes a) = λ e. refl
nlm_unasked limits w version (ShareCall a) = λ e. refl
nlm_unasked limits w version (Unshare a) = λ e. refl
nlm_unasked limits w version (FreeAll name state) = λ e. refl

nsm_unasked : (limits : Limits) (w : World) (local : Bool) (call : NsmCall) → Answer_unasked (nsm_answer limits w local call)
nsm_unasked limits w local SmNull = λ e. refl
nsm_unasked limits w local (SmStat name) = λ e. refl
nsm_unasked limits w true (SmMon name my bytes) = λ e. absurd (none-some (Watched name my bytes) (sym e))
nsm_unasked limits w false (SmMon name my bytes) = λ e. refl
nsm_unasked limits w true (SmUnmon name my) = λ e. absurd (none-some (Unwatched (Some name) my) (sym e))
nsm_unasked limits w false (SmUnmon name my) = λ e. refl
nsm_unasked limits w true (SmUnmonAll my) = λ e. absurd (none-some (Unwatched None my) (sym e))
nsm_unasked limits w false (SmUnmonAll my) = λ e. refl
nsm_unasked limits w true SmSimuCrash = λ e. absurd (none-some Begin (sym e))
nsm_unasked limits w false SmSimuCrash = λ e. refl
nsm_unasked limits w local (SmNotify name state) = go (row_of w.hosts name)
  where
    go : (o : Option HostRow) → Answer_unasked (notify_rules limits w name state o)
    go None = λ e. refl
    go (Some row) = by_cond Answer_unasked (int_eq row.seen state) _ _ (λ _ e. refl) (λ _. slots_unasked (length (watches_of w.hosts name)) limits w (ruling_after_store w (Seen name state) (notified_answer name state) (gives w SystemErr)) (λ e. absurd (none-some (Seen name state) (sym e))))

call_unasked : (limits : Limits) (w : World) (local : Bool) (call : Call) → Answer_unasked (ruling limits w local call)
call_unasked limits w local (Nlm version call) = nlm_unasked limits w version call
call_unasked limits w local (Nsm call) = nsm_unasked limits w local call

abbrev Change_unasked : Ruling (Response TableChange) → Type 0
Change_unasked r = IsUnasked r

notice_unasked : (w : World) (c : Outgoing) (to : Destination) → Change_unasked (notice_answered w c to)
notice_unasked w c (ToHost name) = λ e. absurd (none-some _ (sym e))
notice_unasked w c (ToConnection l) = λ e. refl

succeeded_unasked : (limits : Limits) (w : World) (c : Outgoing) (stat : Option Stat) (m : Message) → Change_unasked (ruling_on_success limits w c stat m)
succeeded_unasked limits w c stat (Granted version exclusive alock) = λ e. refl
succeeded_unasked limits w c stat (GrantedMsg version exclusive alock) = λ e. refl
succeeded_unasked limits w c stat (Notify name state) = notice_unasked w c c.callback.to
succeeded_unasked limits w c stat _ = λ e. refl

answer_unasked : (limits : Limits) (w : World) (reading : AnswerReading) → Change_unasked (answer_rules limits w reading)
answer_unasked limits w Unreadable = λ e. refl
answer_unasked limits w (AcceptedSuccess xid stat) = go (call_of_xid xid w.calls)
  where
    go : (o : Option Outgoing) → Change_unasked (answered_success limits w stat o)
    go None = λ e. refl
    go (Some c) = succeeded_unasked limits w c stat c.callback.message
answer_unasked limits w (OtherAnswer xid) = go (call_of_xid xid w.calls)
  where
    go : (o : Option Outgoing) → Change_unasked (answered_otherwise w o)
    go None = λ e. refl
    go (Some c) = λ e. refl

pub unasked_law : UnaskedLaw
unasked_law = (call_unasked, answer_unasked)

-- ---- what starved

abbrev HostsAlone : State → State → Type 0
HostsAlone s t = t ≡ with_world s (with_hosts s.world t.world.hosts)

row_alone : (s : State) (call : Call) (o : Option StoreCall) (store : StoreAnswer) → HostsAlone s (with_row_stored s call o store)
row_alone s (Nlm version (Locks a)) (Some call) Yes = refl
row_alone s (Nlm version (LockMsg a)) (Some call) Yes = refl
row_alone s _ _ _ = refl

hosts_alone : (limits : Limits) (s : State) (event : Event) (store : StoreAnswer) → HostsAlone s (step limits s event Starved store).state
hosts_alone limits s (Take peer at Ignored) store = refl
hosts_alone limits s (Take peer at (Turned xid refusal)) store = refl
hosts_alone limits s (Take peer at (Asks xid call)) store = row_alone s call (store_call limits s (Take peer at (Asks xid call))) store
hosts_alone limits s (Local l line) store = refl
hosts_alone limits s _ store = refl

row_stays : (s : State) (call : Call) (o : Option StoreCall) (store : StoreAnswer) → store ≢ Yes → with_row_stored s call o store ≡ s
row_stays s (Nlm version (Locks a)) (Some call) Yes h = absurd (h refl)
row_stays s (Nlm version (LockMsg a)) (Some call) Yes h = absurd (h refl)
row_stays s _ _ _ h = refl

unless_agreed : (limits : Limits) (s : State) (event : Event) (store : StoreAnswer) → store ≢ Yes → (step limits s event Starved store).state ≡ s
unless_agreed limits s (Take peer at Ignored) store h = refl
unless_agreed limits s (Take peer at (Turned xid refusal)) store h = refl
unless_agreed limits s (Take peer at (Asks xid call)) store h = row_stays s call (store_call limits s (Take peer at (Asks xid call))) store h
unless_agreed limits s (Local l line) store h = refl
unless_agreed limits s _ store h = refl

pub starved_law : StarvedLaw
starved_law = record { hosts_alone = hosts_alone; unless_agreed = unless_agreed }
