-- The row of a lock's host is there, or stored, before the lock is made.
use Rattle.std.proofs.Common.{◌≡◌, ℕ, ◌-◌, Bool, true, false, cond, not, ◌&&◌, eqb, List, [], ◌∷◌, refl, sym, ap, ◌∙◌, Option, Some, None, ℤ}
use Rattle.std.proofs.lemmas.Bool.{true≢false, or_left, or_right}
use Rattle.std.proofs.lemmas.Option.{none-some}
use Rattle.std.proofs.lemmas.Slice.Eq.{bytes_eq-Decides}
use Rattle.std.specs.declared.cmp.Ordering.{Ordering}
use Rattle.std.specs.declared.cmp.Ordering.TheVariants.{Less, Equal, Greater}
use Rattle.definitions.specs.Bytes.{Bytes, is_any, list_with, placed_list}
use Rattle.definitions.specs.Settings.{setting_of}
use Rattle.definitions.specs.Conflict.{conflicts}
use Rattle.definitions.specs.Quotas.{quotas_of, lacks_room}
use Rattle.definitions.specs.Phases.{Locking, admits}
use Rattle.definitions.specs.Nlm.{Stat, GRANTED, DENIED, DENIED_NOLOCKS, BLOCKED, DEADLCK, STALE_FH, FBIG, DENIED_GRACE_PERIOD, LockArgs}
use Rattle.definitions.specs.Hosts.{Hosts, StoreCall, StoreAnswer, NotAsked, Yes, Refused, Monitor, has_row, full_quota, row_cmp, with_row, after_store, is_named}
use Rattle.definitions.specs.Outgoing.{Message, Granted, GrantedMsg}
use Rattle.definitions.specs.Ranges.{is_stale, is_too_far, range_refusal}
use Rattle.definitions.specs.Waits.{is_waiting, closes_cycle}
use Rattle.definitions.specs.World.{World, Limits, with_waiter, with_hosts, slots_free}
use Rattle.definitions.specs.Rulings.{Response, Ruling, stays, ruled_answer}
use Rattle.definitions.specs.LockRules.{LockAsk, with_lock, row_asked, after_row, free_lock, blocked_lock, lock_rules}
use Rattle.definitions.specs.Answer.{lock_ask, caller_row, lock_unless, lock_verdict, lock_answer, lock_msg_answer}
use Rattle.definition_laws.specs.Monitored.{stands, HasRow, MonitoredLaw, IsGivenUp, RefusedRowLaw}
use Rattle.definitions.proofs.MoveLaws.{by_cond}

put_any : {X : Type 0} (cmp : X → X → Ordering) (p : X → Bool) (x : X) (xs : List X) → p x ≡ true → is_any p (list_with cmp x xs) ≡ true
put_any cmp p x [] e = or_left (p x) false e
put_any cmp p x (y ∷ ys) e = go (cmp x y) (put_any cmp p x ys e)
  where
    go : (o : Ordering) → is_any p (list_with cmp x ys) ≡ true → is_any p (placed_list o x y ys (list_with cmp x ys)) ≡ true
    go Less h = or_left (p x) (is_any p (y ∷ ys)) e
    go Equal h = or_left (p x) (is_any p ys) e
    go Greater h = or_right (p y) (is_any p (list_with cmp x ys)) h

row_stored : (hosts : Hosts) (name : Bytes) (state : ℤ) → has_row hosts name ≡ false → has_row (after_store hosts (Monitor name state)) name ≡ true
row_stored hosts name state e =
    ap (λ b. is_any (is_named name) (cond b hosts.rows (with_row name hosts.own state hosts.rows))) e
    ∙ put_any row_cmp (is_named name) (record { name = name; epoch = hosts.own; seen = state; quota = full_quota }) hosts.rows ((bytes_eq-Decides name name).1 refl)

module _ (limits : Limits) (w : World) (a : LockArgs) where
  abbrev BothHave : Ruling (Response Stat) → Type 0
  BothHave r = HasRow a r.agreed × HasRow a r.refused

  refused_has : (stat : Stat) → stands stat ≡ false → BothHave (stays w stat)
  refused_has stat e = (λ h. absurd (true≢false (sym h ∙ e)), λ h. absurd (true≢false (sym h ∙ e)))

  row_has : (stat : Stat) (change : World → World) → ((v : World) → (change v).hosts ≡ v.hosts) → BothHave (after_row w (row_asked w (caller_row a)) stat change)
  row_has stat change kept = go (has_row w.hosts a.alock.caller_name) refl
    where
      go : (b : Bool) → has_row w.hosts a.alock.caller_name ≡ b → BothHave (after_row w (cond b None (Some (Monitor a.alock.caller_name a.state))) stat change)
      go true e = (λ h. ap (λ hosts. has_row hosts a.alock.caller_name) (kept w) ∙ e, λ h. ap (λ hosts. has_row hosts a.alock.caller_name) (kept w) ∙ e)
      go false e = (
        λ h. ap (λ hosts. has_row hosts a.alock.caller_name) (kept (with_hosts w (after_store w.hosts (Monitor a.alock.caller_name a.state)))) ∙ row_stored w.hosts a.alock.caller_name a.state e,
        λ h. absurd (true≢false (sym h)),
      )

  module _ (message : Message) (slots : ℕ) where
    abbrev ask : LockAsk
    ask = lock_ask a (caller_row a) message slots

    free_has : BothHave (free_lock limits w ask)
    free_has =
        by_cond BothHave (lacks_room limits.runs (quotas_of w.hosts) w.settings ask.request) (stays w DENIED_NOLOCKS) (after_row w (row_asked w (caller_row a)) GRANTED (λ v. with_lock v ask.request)) (λ _. refused_has DENIED_NOLOCKS refl)
        (λ _. row_has GRANTED (λ v. with_lock v ask.request) (λ v. refl))

    blocked_has : BothHave (blocked_lock w ask)
    blocked_has =
        by_cond BothHave (is_waiting ask.request w.waiters) (after_row w (row_asked w (caller_row a)) BLOCKED (λ v. v)) _ (λ _. row_has BLOCKED (λ v. v) (λ v. refl))
        (λ _. by_cond BothHave (closes_cycle w.settings w.waiters ask.request) (stays w DEADLCK) _ (λ _. refused_has DEADLCK refl)
        (λ _. by_cond BothHave (eqb slots 0) (stays w DENIED_NOLOCKS) _ (λ _. refused_has DENIED_NOLOCKS refl)
        (λ _. row_has BLOCKED (λ v. with_waiter v (record { request = ask.request; callback = ask.callback })) (λ v. refl))))

    rules_have : BothHave (lock_rules limits w ask)
    rules_have =
        by_cond BothHave (conflicts w.settings ask.request) (cond (a.block && not a.reclaim) (blocked_lock w ask) (stays w DENIED)) (free_lock limits w ask)
        (λ _. by_cond BothHave (a.block && not a.reclaim) (blocked_lock w ask) (stays w DENIED) (λ _. blocked_has) (λ _. refused_has DENIED refl))
        (λ _. free_has)

    verdict_has : BothHave (lock_verdict limits w a ask)
    verdict_has = go (is_stale a.alock.fh) (is_too_far a.alock.l_offset a.alock.l_len) (admits w.phase (Locking a.reclaim))
      where
        go : (b c d : Bool) → BothHave (lock_unless limits w ask (cond b (Some STALE_FH) (cond c (Some FBIG) (cond d None (Some DENIED_GRACE_PERIOD)))))
        go true c d = refused_has STALE_FH refl
        go false true d = refused_has FBIG refl
        go false false false = refused_has DENIED_GRACE_PERIOD refl
        go false false true = rules_have

ruled_has : (a : LockArgs) (store : StoreAnswer) (r : Ruling (Response Stat)) → HasRow a r.agreed × HasRow a r.refused → HasRow a (ruled_answer store r)
ruled_has a NotAsked r h = h.1
ruled_has a Yes r h = h.0
ruled_has a Refused r h = h.1

pub monitored_law : MonitoredLaw
monitored_law limits w version a store = (
  ruled_has a store (lock_answer limits w version a) (verdict_has limits w a (Granted version a.exclusive a.alock) (slots_free limits w)),
  ruled_has a store (lock_msg_answer limits w version a) (verdict_has limits w a (GrantedMsg version a.exclusive a.alock) (slots_free limits w - 1)),
)

-- ---- a row that is refused

given_up : (w : World) (stat : Stat) → IsGivenUp w (stays w stat)
given_up w stat call e = absurd (none-some call e)

row_given_up : (w : World) (o : Option StoreCall) (stat : Stat) (change : World → World) → IsGivenUp w (after_row w o stat change)
row_given_up w None stat change call e = absurd (none-some call e)
row_given_up w (Some asked) stat change call e = refl

lock_given_up : (limits : Limits) (w : World) (a : LockArgs) (ask : LockAsk) → IsGivenUp w (lock_verdict limits w a ask)
lock_given_up limits w a ask = go (range_refusal w (Locking a.reclaim) a.alock)
  where
    blocked : IsGivenUp w (blocked_lock w ask)
    blocked =
        by_cond (IsGivenUp w) (is_waiting ask.request w.waiters) (after_row w (row_asked w ask.row) BLOCKED (λ v. v)) _ (λ _. row_given_up w (row_asked w ask.row) BLOCKED (λ v. v))
        (λ _. by_cond (IsGivenUp w) (closes_cycle w.settings w.waiters ask.request) (stays w DEADLCK) _ (λ _. given_up w DEADLCK)
        (λ _. by_cond (IsGivenUp w) (eqb ask.slots 0) (stays w DENIED_NOLOCKS) _ (λ _. given_up w DENIED_NOLOCKS)
        (λ _. row_given_up w (row_asked w ask.row) BLOCKED (λ v. with_waiter v (record { request = ask.request; callback = ask.callback })))))

    go : (o : Option Stat) → IsGivenUp w (lock_unless limits w ask o)
    go (Some stat) = given_up w stat
    go None =
        by_cond (IsGivenUp w) (conflicts w.settings ask.request) (cond (ask.block && not ask.reclaim) (blocked_lock w ask) (stays w DENIED)) (free_lock limits w ask)
        (λ _. by_cond (IsGivenUp w) (ask.block && not ask.reclaim) (blocked_lock w ask) (stays w DENIED) (λ _. blocked) (λ _. given_up w DENIED))
        (λ _. by_cond (IsGivenUp w) (lacks_room limits.runs (quotas_of w.hosts) w.settings ask.request) (stays w DENIED_NOLOCKS) (after_row w (row_asked w ask.row) GRANTED (λ v. with_lock v ask.request)) (λ _. given_up w DENIED_NOLOCKS) (λ _. row_given_up w (row_asked w ask.row) GRANTED (λ v. with_lock v ask.request)))

pub refused_row_law : RefusedRowLaw
refused_row_law limits w version a = (
  lock_given_up limits w a (lock_ask a (caller_row a) (Granted version a.exclusive a.alock) (slots_free limits w)),
  lock_given_up limits w a (lock_ask a None (Granted version a.exclusive a.alock) (slots_free limits w)),
  lock_given_up limits w a (lock_ask a (caller_row a) (GrantedMsg version a.exclusive a.alock) (slots_free limits w - 1)),
)
