-- What LOCK and LOCK_MSG ask of the store sets no quota.
use Rattle.std.proofs.Common.{◌≡◌, ◌-◌, Bool, true, false, cond, not, ◌&&◌, eqb, leb, refl, Option, Some, None}
use Rattle.definitions.specs.Settings.{setting_of}
use Rattle.definitions.specs.Conflict.{conflicts}
use Rattle.definitions.specs.Quotas.{quotas_of, lacks_room}
use Rattle.definitions.specs.Phases.{Locking}
use Rattle.definitions.specs.Nlm.{Stat, GRANTED, DENIED, DENIED_NOLOCKS, BLOCKED, DEADLCK, LockArgs, Locks, LockMsg}
use Rattle.definitions.specs.Hosts.{StoreCall, Monitor, has_row}
use Rattle.definitions.specs.Outgoing.{Granted, GrantedMsg}
use Rattle.definitions.specs.Ranges.{range_refusal}
use Rattle.definitions.specs.Replies.{Call, Nlm, SystemErr}
use Rattle.definitions.specs.Waits.{is_waiting, closes_cycle}
use Rattle.definitions.specs.World.{World, Limits, with_waiter, slots_free}
use Rattle.definitions.specs.Rulings.{Response, Ruling, decided_ruling, stays}
use Rattle.definitions.specs.LockRules.{LockAsk, with_lock, NewHost, row_asked, after_row, free_lock, blocked_lock, lock_rules}
use Rattle.definitions.specs.Answer.{by_call, lock_callback, Answered, gives, lock_ask, caller_row, lock_unless, lock_verdict, lock_msg_answer}
use Rattle.definitions.specs.Step.{State, Peer, KeptPair, asked_unless_kept}
use Rattle.definitions.proofs.MoveLaws.{by_cond}
use Rattle.definitions.proofs.QuotaLaws.{is_quota}

-- no call, or one that sets no quota
abbrev pub IsNoQuota : Option StoreCall → Type 0
IsNoQuota None = Unit {0}
IsNoQuota (Some call) = is_quota call ≡ false

abbrev pub IsOfRow : Call → Option StoreCall → Type 0
IsOfRow (Nlm version (Locks a)) o = IsNoQuota o
IsOfRow (Nlm version (LockMsg a)) o = IsNoQuota o
IsOfRow _ o = Unit {0}

abbrev SetsNone : Ruling (Response Stat) → Type 0
SetsNone r = IsNoQuota r.asks

new_row : (w : World) (row : Option NewHost) → IsNoQuota (row_asked w row)
new_row w None = tt
new_row w (Some h) = go (has_row w.hosts h.name)
  where
    go : (b : Bool) → IsNoQuota (cond b None (Some (Monitor h.name h.state)))
    go true = tt
    go false = refl

after_new : (w : World) (call : Option StoreCall) (stat : Stat) (change : World → World) → IsNoQuota call → SetsNone (after_row w call stat change)
after_new w None stat change h = tt
after_new w (Some call) stat change h = h

rules_set_none : (limits : Limits) (w : World) (a : LockAsk) → SetsNone (lock_rules limits w a)
rules_set_none limits w a =
    by_cond SetsNone (conflicts w.settings a.request) (cond (a.block && not a.reclaim) (blocked_lock w a) (stays w DENIED)) (free_lock limits w a)
    (λ _. by_cond SetsNone (a.block && not a.reclaim) (blocked_lock w a) (stays w DENIED) (λ _. blocked) (λ _. tt))
    (λ _. by_cond SetsNone (lacks_room limits.runs (quotas_of w.hosts) w.settings a.request) (stays w DENIED_NOLOCKS) (after_row w (row_asked w a.row) GRANTED (λ v. with_lock v a.request)) (λ _. tt) (λ _. after_new w (row_asked w a.row) GRANTED (λ v. with_lock v a.request) (new_row w a.row)))
  where
    blocked : SetsNone (blocked_lock w a)
    blocked =
        by_cond SetsNone (is_waiting a.request w.waiters) (after_row w (row_asked w a.row) BLOCKED (λ v. v)) _ (λ _. after_new w (row_asked w a.row) BLOCKED (λ v. v) (new_row w a.row))
        (λ _. by_cond SetsNone (closes_cycle w.settings w.waiters a.request) (stays w DEADLCK) _ (λ _. tt)
        (λ _. by_cond SetsNone (eqb a.slots 0) (stays w DENIED_NOLOCKS) _ (λ _. tt)
        (λ _. after_new w (row_asked w a.row) BLOCKED (λ v. with_waiter v (record { request = a.request; callback = a.callback })) (new_row w a.row))))

verdict_sets_none : (limits : Limits) (w : World) (a : LockArgs) (ask : LockAsk) → SetsNone (lock_verdict limits w a ask)
verdict_sets_none limits w a ask = go (range_refusal w (Locking a.reclaim) a.alock)
  where
    go : (o : Option Stat) → SetsNone (lock_unless limits w ask o)
    go (Some stat) = tt
    go None = rules_set_none limits w ask

pub asks_row : (limits : Limits) (s : State) (peer : Peer) (call : Call) (o : Option KeptPair) → IsOfRow call (asked_unless_kept limits s peer call o)
asks_row limits s peer (Nlm version (Locks a)) (Some k) = tt
asks_row limits s peer (Nlm version (LockMsg a)) (Some k) = tt
asks_row limits s peer (Nlm version (Locks a)) None = verdict_sets_none limits s.world a (lock_ask a (caller_row a) (Granted version a.exclusive a.alock) (slots_free limits s.world))
asks_row limits s peer (Nlm version (LockMsg a)) None =
    by_cond (λ (r : Ruling Answered). IsNoQuota r.asks) (leb 1 (slots_free limits s.world)) (by_call (lock_callback version a) (lock_msg_answer limits s.world version a)) (decided_ruling (gives s.world SystemErr))
    (λ _. verdict_sets_none limits s.world a (lock_ask a (caller_row a) (GrantedMsg version a.exclusive a.alock) (slots_free limits s.world - 1)))
    (λ _. tt)
asks_row limits s peer _ o = tt
