-- What the lock rules say, by what the world shows.
use Rattle.std.proofs.Common.{◌≡◌, ◌≤◌, ◌<◌, ℕ, ◌+◌, ◌-◌, eqb, Bool, true, false, not, ◌&&◌, cond, List, [], ◌∷◌, length, refl, sym, ap, ◌∙◌, subst, Some, None, Result, Ok, Err, arith}
use Rattle.std.proofs.lemmas.Bool.{eqb-true, false≢true}
use Rattle.std.proofs.lemmas.List.{length-append}
use Rattle.std.specs.Prelude.{IfOk}
use Rattle.definitions.specs.Bytes.{Bytes, without_first}
use Rattle.definitions.proofs.Lists.{length_without}
use Rattle.definitions.specs.Owners.{Owner}
use Rattle.definitions.specs.Settings.{Mode, Request, Setting}
use Rattle.definitions.specs.Conflict.{conflicts}
use Rattle.definitions.specs.Phases.{Cancelling, Locking}
use Rattle.definitions.specs.Quotas.{quotas_of, lacks_room}
use Rattle.definitions.specs.Hosts.{Hosts, StoreCall, Monitor, has_row, after_store}
use Rattle.definitions.specs.Nlm as nlm
use Rattle.definitions.specs.Nlm.{Stat}
use Rattle.definitions.specs.Waits.{Waiter, is_waiting, without_waiter, same_request as is_same_request, closes_cycle}
use Rattle.definitions.specs.World.{World, the_limits, slots_free, with_hosts, with_waiter}
use Rattle.definitions.specs.Ranges.{range_refusal, request_of}
use Rattle.definitions.specs.Rulings.{Ruling, Response, decided_ruling, stays}
use Rattle.definitions.specs.Outgoing.{Outgoing, Granted, GrantedMsg}
use Rattle.definitions.specs.LockRules.{LockAsk, NewHost, tells_of, without_grants_of, with_lock, row_asked, after_row, lock_rules, blocked_lock}
use Rattle.definitions.specs.Answer.{Answered, cancel_answer, cancel_unless, lock_unless, lock_ask, caller_row}
use Rattle.call_plans.specs.declared.plans.Asked.{Asked}
use Rattle.call_plans.specs.declared.plans.Asked.TheVariants as asks
use Rattle.call_plans.specs.declared.plans.Change.{Change}
use Rattle.call_plans.specs.declared.plans.Plan.{Plan}
use Rattle.nlm4_types.specs.declared.stat.Stat.{Stat as NumberedStat}
use Rattle.nlm4_types.specs.Stat.{view_of_stat}
use Rattle.call_plans.specs.Planned.{view_of_asked, changed_world, CanAskFor, FitsChange, IsPlan}
use Rattle.lock_service.specs.declared.lock.LockCall.{LockCall}
use Rattle.lock_service.specs.declared.lock.LockCall.TheVariants as call
use Rattle.lock_service.specs.declared.verdict.Verdict.{Verdict}
use Rattle.lock_service.specs.declared.verdict.Verdict.TheVariants as verdict
use Rattle.lock_service.specs.Asks.{kept_out}
use Rattle.lock_service.specs.Locking.{answer_by}
use Rattle.lock_service.specs.Verdicts.{IsAfterRow, IsVerdict, LeavesRoomBy, LeavesRoomAfter}

module _ (w : World) (a : LockAsk) where
  pub in_the_way : conflicts w.settings a.request ≡ true → lock_rules the_limits w a ≡ kept_out w a
  in_the_way taken = rw taken refl

  pub never_waits : a.reclaim ≡ true → kept_out w a ≡ stays w nlm.DENIED
  never_waits reclaim = ap (λ b. cond (a.block && not b) (blocked_lock w a) (stays w nlm.DENIED)) reclaim ∙ go a.block
    where
      go : (b : Bool) → cond (b && false) (blocked_lock w a) (stays w nlm.DENIED) ≡ stays w nlm.DENIED
      go true = refl
      go false = refl

  pub waits_for_none : a.block ≡ false → kept_out w a ≡ stays w nlm.DENIED
  waits_for_none block = rw block refl

  pub no_room : conflicts w.settings a.request ≡ false → lacks_room 65536 (quotas_of w.hosts) w.settings a.request ≡ true → lock_rules the_limits w a ≡ stays w nlm.DENIED_NOLOCKS
  no_room free full = rw (free, full) refl

  pub granted : conflicts w.settings a.request ≡ false → lacks_room 65536 (quotas_of w.hosts) w.settings a.request ≡ false → lock_rules the_limits w a ≡ after_row w (row_asked w a.row) nlm.GRANTED (λ v. with_lock v a.request)
  granted free room = rw (free, room) refl

  pub would_wait_for_itself : is_waiting a.request w.waiters ≡ false → closes_cycle w.settings w.waiters a.request ≡ true → blocked_lock w a ≡ stays w nlm.DEADLCK
  would_wait_for_itself e f = rw (e, f) refl

  pub no_place : is_waiting a.request w.waiters ≡ false → closes_cycle w.settings w.waiters a.request ≡ false → eqb a.slots 0 ≡ true → blocked_lock w a ≡ stays w nlm.DENIED_NOLOCKS
  no_place e f none = rw (e, f, none) refl

  pub waits_now : is_waiting a.request w.waiters ≡ false → closes_cycle w.settings w.waiters a.request ≡ false → eqb a.slots 0 ≡ false
      → blocked_lock w a ≡ after_row w (row_asked w a.row) nlm.BLOCKED (λ v. with_waiter v (record { request = a.request; callback = a.callback }))
  waits_now e f some = rw (e, f, some) refl

-- the row of a host that has none
pub row_first : (w : World) (h : NewHost) (stat : Stat) (f : World → World) (call : StoreCall) → has_row w.hosts h.name ≡ false → call ≡ Monitor h.name h.state
    → ◌≡◌ {A = Ruling (Response Stat)} (record { asks = Some call; agreed = record { says = stat; world = f (with_hosts w (after_store w.hosts call)) }; refused = record { says = nlm.DENIED_NOLOCKS; world = w } }) (after_row w (row_asked w (Some h)) stat f)
row_first w h stat f call none is = rw (none, is) refl

can_ask : (asked : Asked) (w : World) (h : NewHost) → view_of_asked asked ≡ Monitor h.name h.state → has_row w.hosts h.name ≡ false → CanAskFor asked w
can_ask (asks.Monitor name state) w h is none = rw (monitored_name is) none
  where
    named : StoreCall → Bytes
    named (Monitor name state) = name
    named _ = []

    monitored_name : Monitor name state ≡ Monitor h.name h.state → name ≡ h.name
    monitored_name e = ap named e
can_ask (asks.Seen name state) w h is none = tt
can_ask (asks.Watched mon_name my_id bytes) w h is none = tt
can_ask (asks.Unwatched mon_name my_id) w h is none = tt
can_ask asks.Begin w h is none = tt

pub after_the_row : {E : Type 0} (r : Result Verdict E) (w : World) (h : NewHost) (stat : NumberedStat) (change : Change) → has_row w.hosts h.name ≡ false → ((hosts : Hosts) → FitsChange change (with_hosts w hosts))
    → IfOk r (IsAfterRow (Monitor h.name h.state) stat change) → IfOk r (λ v. (n : ℕ) → LeavesRoomBy n change w → LeavesRoomAfter n change w → IsVerdict (after_row w (row_asked w (Some h)) (view_of_stat stat) (changed_world change)) n w v)
after_the_row (Err e) w h stat change none fits is = tt
after_the_row (Ok (verdict.Decided s c)) w h stat change none fits is = absurd is
after_the_row (Ok (verdict.AfterStore asked s c)) w h stat change none fits (call, says, does) = λ n here after. record {
  ruled = rw (says, does) (row_first w h (view_of_stat stat) (changed_world change) (view_of_asked asked) none call);
  fits = rw does (fits (after_store w.hosts (view_of_asked asked)), can_ask asked w h call none);
  room = rw does (after (after_store w.hosts (view_of_asked asked)));
}

-- CANCEL
fewer : {X : Type 0} (p : X → Bool) (xs : List X) → length (without_first p xs) ≤ length xs
fewer p [] = omega arith
fewer p (x ∷ xs) = go (p x) (fewer p xs)
  where
    go : (b : Bool) → length (without_first p xs) ≤ length xs → length (cond b xs (x ∷ without_first p xs)) ≤ length (x ∷ xs)
    go true h = omega arith
    go false h = omega arith

pub leaves_room : (w : World) (r : Request) (reserved : ℕ) → reserved ≤ slots_free the_limits w → reserved ≤ slots_free the_limits (record w { waiters = without_waiter r w.waiters })
leaves_room w r reserved h =
    let few = fewer (λ (x : Waiter). is_same_request x.request r) w.waiters in
    omega arith

-- a lock that ends grants leaves no less room
pub lock_leaves_room : (w : World) (r : Request) (reserved : ℕ) → reserved ≤ slots_free the_limits w → reserved ≤ slots_free the_limits (with_lock w r)
lock_leaves_room w r reserved h = go w.rules.polls_end_grants
  where
    no_more : length (without_grants_of r w.calls) ≤ length w.calls
    no_more = length_without (λ (c : Outgoing). tells_of r c.callback.message) w.calls

    go : (b : Bool) → reserved ≤ the_limits.slots - (length w.waiters + length (cond b (without_grants_of r w.calls) w.calls))
    go true = let fewer = no_more in omega arith
    go false = h

module _ (w : World) (a : nlm.CancelArgs) (none : range_refusal w Cancelling a.alock ≡ None) (q r : Request) (asked : q ≡ r) (is : r ≡ request_of a.exclusive a.alock) where
  waits : (b : Bool) → b ≡ is_waiting q w.waiters → is_waiting (request_of a.exclusive a.alock) w.waiters ≡ b
  waits b e = sym (e ∙ ap (λ (x : Request). is_waiting x w.waiters) (asked ∙ is))

  pub waits_not : (b : Bool) → b ≡ is_waiting q w.waiters → b ≡ false → cancel_answer w a ≡ stays w nlm.DENIED
  waits_not true e h = absurd (false≢true (sym h))
  waits_not false e h = ap (cancel_unless w (request_of a.exclusive a.alock)) none ∙ rw (waits false e) refl

  pub is_cancelled : (b : Bool) → b ≡ is_waiting q w.waiters → b ≡ true → decided_ruling (record { says = nlm.GRANTED; world = record w { waiters = without_waiter r w.waiters } }) ≡ cancel_answer w a
  is_cancelled false e h = absurd (false≢true h)
  is_cancelled true e h = rw is (sym (ap (cancel_unless w (request_of a.exclusive a.alock)) none ∙ rw (waits true e) refl))

  pub is_there : (b : Bool) → b ≡ is_waiting q w.waiters → b ≡ true → is_waiting r w.waiters ≡ true
  is_there false e h = absurd (false≢true h)
  is_there true e h = ap (λ (x : Request). is_waiting x w.waiters) (sym asked) ∙ sym e

pub same_unlock : (file fh : Bytes) (x y : Owner) (first offset last end : ℕ) → file ≡ fh → x ≡ y → first ≡ offset → last ≡ end → ◌≡◌ {A = Setting} (record { file = file; owner = x; first = first; last = last; mode = None }) (record { file = fh; owner = y; first = offset; last = end; mode = None })
same_unlock file fh x y first offset last end a b c d = rw (a, b, c, d) refl

-- where the telling leaves no place for a waiter, or one
pub no_slot : (n free reserved : ℕ) → n ≡ free → n ≤ reserved → eqb (free - reserved) 0 ≡ true
no_slot n free reserved is few =
    let none : free - reserved ≡ 0 = omega arith in
    rw none refl

pub some_slot : (n free reserved : ℕ) → n ≡ free → reserved < n → eqb (free - reserved) 0 ≡ false
some_slot n free reserved is more = go (eqb (free - reserved) 0) refl
  where
    go : (b : Bool) → eqb (free - reserved) 0 ≡ b → b ≡ false
    go true e = let none = eqb-true (free - reserved) 0 e in absurd (omega arith)
    go false e = refl

pub room_behind : (w : World) (x : Waiter) (n reserved : ℕ) → n ≡ slots_free the_limits w → reserved < n → reserved ≤ slots_free the_limits (with_waiter w x)
room_behind w x n reserved is more =
    let longer = length-append w.waiters (x ∷ []) in
    omega arith

pub made_so : {E : Type 0} (r : Result Verdict E) (w : World) (change : Change) (n : ℕ) (x y : Ruling (Response Stat)) → y ≡ x → LeavesRoomBy n change w → LeavesRoomAfter n change w → IfOk r (λ v. (m : ℕ) → LeavesRoomBy m change w → LeavesRoomAfter m change w → IsVerdict x m w v) → IfOk r (λ v. IsVerdict y n w v)
made_so (Ok v) w change n x y same room after h = subst (λ z. IsVerdict z n w v) (sym same) (h n room after)
made_so (Err e) w change n x y same room after h = tt

-- what a lock call is refused for
pub refused_by : (call : LockCall) (w : World) (version : nlm.Version) (a : nlm.LockArgs) (stat : Stat) → range_refusal w (Locking a.reclaim) a.alock ≡ Some stat → answer_by call w version a ≡ stays w stat
refused_by call.Lock w version a stat e = ap (lock_unless the_limits w (lock_ask a (caller_row a) (Granted version a.exclusive a.alock) (slots_free the_limits w))) e
refused_by call.NmLock w version a stat e = ap (lock_unless the_limits w (lock_ask a None (Granted version a.exclusive a.alock) (slots_free the_limits w))) e
refused_by call.LockMsg w version a stat e = ap (lock_unless the_limits w (lock_ask a (caller_row a) (GrantedMsg version a.exclusive a.alock) (slots_free the_limits w - 1))) e

pub same_request : (file fh : Bytes) (x y : Owner) (first offset last end : ℕ) (mode wanted : Mode) → file ≡ fh → x ≡ y → first ≡ offset → last ≡ end → mode ≡ wanted → ◌≡◌ {A = Request} (record { file = file; owner = x; first = first; last = last; mode = mode }) (record { file = fh; owner = y; first = offset; last = end; mode = wanted })
same_request file fh x y first offset last end mode wanted a b c d e = rw (a, b, c, d, e) refl

pub in_world : {E : Type 0} (r : Result Plan E) (w : World) (answers : World → nlm.Version → Ruling Answered) (v : nlm.Version) → IfOk r (λ p. (u : World) (version : nlm.Version) → IsPlan (answers u version) u p) → IfOk r (λ p. IsPlan (answers w v) w p)
in_world (Ok p) w answers v h = h w v
in_world (Err e) w answers v h = tt
