-- An honest reclaim in grace is granted.
use Rattle.std.proofs.Common.{◌≡◌, ◌≢◌, ℕ, ◌-◌, Bool, true, false, cond, not, ◌&&◌, leb, List, [], ◌∷◌, ◌++◌, map, refl, sym, ap, subst, ◌∙◌, Option, Some, None}
use Rattle.std.proofs.lemmas.Bool.{true≢false, or_from}
use Rattle.std.proofs.lemmas.List.{map-append}
use Rattle.std.proofs.lemmas.Option.{same_Some, none-some}
use Rattle.definitions.specs.Bytes.{Bytes}
use Rattle.definitions.specs.Settings.{Setting, Request, setting_of}
use Rattle.definitions.specs.Conflict.{conflicts}
use Rattle.definitions.specs.Starts.{is_short}
use Rattle.definitions.specs.Quotas.{quotas_of, exceeds, lacks_room}
use Rattle.definitions.specs.Phases.{Phase, Grace, Locking, admits}
use Rattle.definitions.specs.Nlm.{Version, Stat, NlmCall, Null, Test, Locks, Cancel, Unlock, TestMsg, LockMsg, CancelMsg, UnlockMsg, GrantedRes, ShareCall, Unshare, NmLock, FreeAll, LockArgs, GRANTED, DENIED, DENIED_NOLOCKS, STALE_FH, FBIG, DENIED_GRACE_PERIOD}
use Rattle.definitions.specs.Ranges.{range_refusal, is_stale, is_too_far, request_of}
use Rattle.definitions.specs.Hosts.{StoreCall, StoreAnswer, NotAsked, Yes, Refused}
use Rattle.definitions.specs.Outgoing.{Outgoing, Message, Granted, GrantedMsg, due_now}
use Rattle.definitions.specs.Replies.{Nlm, Asks, Success, NoResult, ResResult, SystemErr}
use Rattle.definitions.specs.Shown.{res}
use Rattle.definitions.specs.World.{World, the_limits, slots_free, settled_world}
use Rattle.definitions.specs.Rulings.{Response, Ruling, ruled_answer, decided_ruling, stays}
use Rattle.definitions.specs.LockRules.{LockAsk, NewHost, calls_after_lock, with_lock, row_asked, after_row, free_lock, blocked_lock, lock_rules}
use Rattle.definitions.specs.Answer.{Answered, gives, answer_of_response, sent_back, by_reply, by_call, lock_callback, lock_ask, caller_row, lock_unless, lock_verdict, lock_msg_answer, nlm_answer, ruling}
use Rattle.definitions.specs.Reclaims.{AreCompatible, IsUnder}
use Rattle.definitions.specs.Step.{Peer, KeptPair, State, Event, Take, Applied, Replies, taken_step, applied_step, store_call, asked_unless_kept}
use Rattle.definitions.specs.Replay.{fits}
use Rattle.definitions.proofs.ReclaimLaws.{honest_meets_no_conflict}
use Rattle.definition_laws.proofs.AnswerMoves.{admitted}
use Rattle.definition_laws.proofs.StepLaws.{settled_nobody}
use Rattle.restart_laws.specs.Honest.{lock_of, has_place, IsHonestReclaim, IsGranted}

-- a lock that meets no conflict and finds room is granted once its row is stored
rules_grant : (w : World) (a : LockAsk) → conflicts w.settings a.request ≡ false → lacks_room the_limits.runs (quotas_of w.hosts) w.settings a.request ≡ false → lock_rules the_limits w a ≡ after_row w (row_asked w a.row) GRANTED (λ v. with_lock v a.request)
rules_grant w a free room =
    ap (λ b. cond b (cond (a.block && not a.reclaim) (blocked_lock w a) (stays w DENIED)) (free_lock the_limits w a)) free
    ∙ ap (λ b. cond b (stays w DENIED_NOLOCKS) (after_row w (row_asked w a.row) GRANTED (λ v. with_lock v a.request))) room

-- a grant that the store doesn't refuse: the setting is made, the calls that a poll ends are gone, and nothing else but a row
record IsGrant (w : World) (r : Request) (t : Response Stat) : Type 0 where
  says : t.says ≡ GRANTED
  settings : t.world.settings ≡ w.settings ++ setting_of r ∷ []
  calls : t.world.calls ≡ calls_after_lock w.rules r w.calls
  waiters : t.world.waiters ≡ w.waiters

agreed_grant : (w : World) (o : Option StoreCall) (r : Request) → IsGrant w r (after_row w o GRANTED (λ v. with_lock v r)).agreed
agreed_grant w None r = record { says = refl; settings = refl; calls = refl; waiters = refl }
agreed_grant w (Some call) r = record { says = refl; settings = refl; calls = refl; waiters = refl }

-- where nothing is asked, both answers are one
row_unasked : (w : World) (o : Option StoreCall) (stat : Stat) (change : World → World) → (after_row w o stat change).asks ≡ None → (after_row w o stat change).refused ≡ (after_row w o stat change).agreed
row_unasked w None stat change e = refl
row_unasked w (Some call) stat change e = absurd (none-some call (sym e))

range_fine : (w : World) (a : LockArgs) → w.phase ≡ Grace → a.reclaim ≡ true → is_stale a.alock.fh ≡ false → is_too_far a.alock.l_offset a.alock.l_len ≡ false → range_refusal w (Locking a.reclaim) a.alock ≡ None
range_fine w a g e stale far =
    let at : Bool → Bool → Bool → Option Stat = λ b c d. cond b (Some STALE_FH) (cond c (Some FBIG) (cond d None (Some DENIED_GRACE_PERIOD))) in
    ap (λ b. at b (is_too_far a.alock.l_offset a.alock.l_len) (admits w.phase (Locking a.reclaim))) stale
    ∙ ap (λ c. at false c (admits w.phase (Locking a.reclaim))) far
    ∙ ap (λ d. at false false d) (ap (λ (p : Phase). admits p (Locking a.reclaim)) g ∙ e)

module _ (list : List Setting) (compatible : AreCompatible list) (s : State) (under : IsUnder list s.world) (peer : Peer) (asked : Bytes) (xid : ℕ) (version : Version) (call : NlmCall) (a : LockArgs) (store : StoreAnswer) (h : IsHonestReclaim list s peer asked call a store) where
  abbrev w : World
  w = s.world

  abbrev request : Request
  request = request_of a.exclusive a.alock

  room : lacks_room the_limits.runs (quotas_of w.hosts) w.settings request ≡ false
  room = or_from (is_short the_limits.runs w.settings) (exceeds (quotas_of w.hosts) w.settings (setting_of request)) h.runs h.quota

  ok : range_refusal w (Locking a.reclaim) a.alock ≡ None
  ok = range_fine w a h.grace h.reclaim h.fresh h.near

  free : conflicts w.settings request ≡ false
  free = honest_meets_no_conflict list w.settings request (admitted w (Locking a.reclaim) a.alock ok).0 compatible under.settings h.honest

  -- the verdict of each of the three
  verdict : (row : Option NewHost) (message : Message) (slots : ℕ) → lock_verdict the_limits w a (lock_ask a row message slots) ≡ after_row w (row_asked w row) GRANTED (λ v. with_lock v request)
  verdict row message slots =
      ap (lock_unless the_limits w (lock_ask a row message slots)) ok
      ∙ rules_grant w (lock_ask a row message slots) free room

  abbrev grant : Option NewHost → Ruling (Response Stat)
  grant row = after_row w (row_asked w row) GRANTED (λ v. with_lock v request)

  is_grant : (row : Option NewHost) → IsGrant w request (grant row).agreed
  is_grant row = agreed_grant w (row_asked w row) request

  by_lock : nlm_answer the_limits w version (Locks a) ≡ by_reply version a.cookie (grant (caller_row a))
  by_lock = ap (by_reply version a.cookie) (verdict (caller_row a) (Granted version a.exclusive a.alock) (slots_free the_limits w))

  by_nm_lock : nlm_answer the_limits w version (NmLock a) ≡ by_reply version a.cookie (grant None)
  by_nm_lock = ap (by_reply version a.cookie) (verdict None (Granted version a.exclusive a.alock) (slots_free the_limits w))

  by_lock_msg : leb 1 (slots_free the_limits w) ≡ true → nlm_answer the_limits w version (LockMsg a) ≡ by_call (lock_callback version a) (grant (caller_row a))
  by_lock_msg p =
      ap (λ b. cond b (by_call (lock_callback version a) (lock_msg_answer the_limits w version a)) (decided_ruling (gives w SystemErr))) p
      ∙ ap (by_call (lock_callback version a)) (verdict (caller_row a) (GrantedMsg version a.exclusive a.alock) (slots_free the_limits w - 1))

  abbrev event_of : NlmCall → Event
  event_of c = Take peer asked (Asks xid (Nlm version c))

  abbrev Fits : NlmCall → StoreAnswer → Type 0
  Fits c answer = fits the_limits s (record { event = event_of c; completion = Applied; store = answer }) ≡ true

  -- the store was asked and agreed, or there was nothing to ask
  agreed : (c : NlmCall) (r : Ruling Answered) → nlm_answer the_limits w version c ≡ r → (r.asks ≡ None → r.refused ≡ r.agreed) → Fits c store → ruled_answer store (ruling the_limits w peer.local (Nlm version c)) ≡ r.agreed
  agreed c r is unasked fit = ap (ruled_answer store) is ∙ go store r.asks refl fit h.row
    where
      call_is : store_call the_limits s (event_of c) ≡ r.asks
      call_is = ap (asked_unless_kept the_limits s peer (Nlm version c)) h.new ∙ ap (λ (q : Ruling Answered). q.asks) is

      go : (answer : StoreAnswer) (o : Option StoreCall) → r.asks ≡ o → Fits c answer → answer ≢ Refused → ruled_answer answer r ≡ r.agreed
      go Yes o e f n = refl
      go Refused o e f n = absurd (n refl)
      go NotAsked None e f n = unasked e
      go NotAsked (Some asked_of) e f n =
          let has : store_call the_limits s (event_of c) ≡ Some asked_of = call_is ∙ e in
          let unfit : fits the_limits s (record { event = event_of c; completion = Applied; store = NotAsked }) ≡ false = rw has refl in
          absurd (true≢false (sym f ∙ unfit))

  -- the table after it, and what its caller is told
  replied_grant : (c : NlmCall) (row : Option NewHost) → nlm_answer the_limits w version c ≡ by_reply version a.cookie (grant row) → Fits c store
      → ((taken_step the_limits s peer asked xid (Nlm version c) store None).state.world.settings ≡ w.settings ++ setting_of request ∷ []) × ((taken_step the_limits s peer asked xid (Nlm version c) store None).given ≡ Replies xid (Success (ResResult (res version a.cookie GRANTED))))
  replied_grant c row is fit =
      let t = (grant row).agreed in
      let g = is_grant row in
      let same = agreed c (by_reply version a.cookie (grant row)) is (λ e. ap (answer_of_response version a.cookie) (row_unasked w (row_asked w row) GRANTED (λ v. with_lock v request) e)) fit in (
        ap (λ (x : Answered). (settled_world the_limits x.world).settings) same ∙ ap (λ (v : World). v.settings) (settled_nobody the_limits t.world (g.waiters ∙ under.waiters)) ∙ g.settings,
        ap (λ (x : Answered). Replies xid x.outcome) same ∙ ap (λ stat. Replies xid (Success (ResResult (res version a.cookie stat)))) g.says,
      )

  called_grant : leb 1 (slots_free the_limits w) ≡ true → Fits (LockMsg a) store
      → ((taken_step the_limits s peer asked xid (Nlm version (LockMsg a)) store None).state.world.settings ≡ w.settings ++ setting_of request ∷ [])
      × ((taken_step the_limits s peer asked xid (Nlm version (LockMsg a)) store None).given ≡ Replies xid (Success NoResult))
      × (map (λ (c : Outgoing). c.callback) (taken_step the_limits s peer asked xid (Nlm version (LockMsg a)) store None).state.world.calls ≡ map (λ (c : Outgoing). c.callback) (calls_after_lock w.rules request w.calls) ++ lock_callback version a GRANTED ∷ [])
  called_grant p fit =
      let row = caller_row a in
      let t = (grant row).agreed in
      let g = is_grant row in
      let back : Response Stat → Answered = λ told. sent_back (lock_callback version a told.says) told.world in
      let same = agreed (LockMsg a) (by_call (lock_callback version a) (grant row)) (by_lock_msg p) (λ e. ap back (row_unasked w (row_asked w row) GRANTED (λ v. with_lock v request) e)) fit in
      let rest = settled_nobody the_limits (back t).world (g.waiters ∙ under.waiters) in (
        ap (λ (x : Answered). (settled_world the_limits x.world).settings) same ∙ ap (λ (v : World). v.settings) rest ∙ g.settings,
        ap (λ (x : Answered). Replies xid x.outcome) same,
        ap (λ (x : Answered). map (λ (c : Outgoing). c.callback) (settled_world the_limits x.world).calls) same
            ∙ ap (λ (v : World). map (λ (c : Outgoing). c.callback) v.calls) rest
            ∙ map-append (λ (c : Outgoing). c.callback) t.world.calls (due_now t.world.next (lock_callback version a t.says) ∷ [])
            ∙ ap (λ (calls : List Outgoing). map (λ (c : Outgoing). c.callback) calls ++ lock_callback version a t.says ∷ []) g.calls
            ∙ ap (λ stat. map (λ (c : Outgoing). c.callback) (calls_after_lock w.rules request w.calls) ++ lock_callback version a stat ∷ []) g.says,
      )

  abbrev Granted_by : NlmCall → Option KeptPair → Type 0
  Granted_by c o = IsGranted version c a xid s (taken_step the_limits s peer asked xid (Nlm version c) store o).given (taken_step the_limits s peer asked xid (Nlm version c) store o).state

  fresh_granted : (c : NlmCall) → lock_of c ≡ Some a → has_place s c ≡ true → Fits c store → Granted_by c None
  fresh_granted (Locks b) e p fit = subst (λ (x : LockArgs). Fits (Locks x) store → Granted_by (Locks x) None) (sym (same_Some b a e)) (λ f. let g = replied_grant (Locks a) (caller_row a) by_lock f in record { settings = g.0; told = g.1 }) fit
  fresh_granted (NmLock b) e p fit = subst (λ (x : LockArgs). Fits (NmLock x) store → Granted_by (NmLock x) None) (sym (same_Some b a e)) (λ f. let g = replied_grant (NmLock a) None by_nm_lock f in record { settings = g.0; told = g.1 }) fit
  fresh_granted (LockMsg b) e p fit = subst (λ (x : LockArgs). Fits (LockMsg x) store → Granted_by (LockMsg x) None) (sym (same_Some b a e)) (λ f. let g = called_grant p f in record { settings = g.0; told = (g.1, g.2) }) fit
  fresh_granted Null e p fit = absurd (none-some a e)
  fresh_granted (Test b) e p fit = absurd (none-some a e)
  fresh_granted (Cancel b) e p fit = absurd (none-some a e)
  fresh_granted (Unlock b) e p fit = absurd (none-some a e)
  fresh_granted (TestMsg b) e p fit = absurd (none-some a e)
  fresh_granted (CancelMsg b) e p fit = absurd (none-some a e)
  fresh_granted (UnlockMsg b) e p fit = absurd (none-some a e)
  fresh_granted (GrantedRes b) e p fit = absurd (none-some a e)
  fresh_granted (ShareCall b) e p fit = absurd (none-some a e)
  fresh_granted (Unshare b) e p fit = absurd (none-some a e)
  fresh_granted (FreeAll name state) e p fit = absurd (none-some a e)

  pub reclaim_granted : Fits call store → IsGranted version call a xid s (applied_step the_limits s (event_of call) store).given (applied_step the_limits s (event_of call) store).state
  reclaim_granted fit = subst (Granted_by call) (sym h.new) (fresh_granted call h.lock h.place fit)
