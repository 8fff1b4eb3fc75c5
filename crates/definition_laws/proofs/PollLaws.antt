-- Where polls end grants, an answer that is GRANTED leaves no call that tells of its lock, and no late answer unlocks it.
use Rattle.std.proofs.Common.{◌≡◌, ◌-◌, Bool, true, false, cond, not, ◌&&◌, ◌||◌, eqb, List, [], ◌∷◌, refl, sym, ap, ◌∙◌, Option, Some, None}
use Rattle.std.proofs.lemmas.Bool.{true≢false, or_parts}
use Rattle.std.proofs.lemmas.Option.{none-some, same_Some}
use Rattle.definitions.specs.Bytes.{Bytes, is_any, list_without}
use Rattle.definitions.specs.Settings.{Setting, Request}
use Rattle.definitions.specs.Conflict.{conflicts}
use Rattle.definitions.specs.Quotas.{quotas_of, lacks_room, is_refused}
use Rattle.definitions.specs.Phases.{Locking, admits}
use Rattle.definitions.specs.Nlm.{Stat, GRANTED, DENIED, DENIED_NOLOCKS, DENIED_GRACE_PERIOD, BLOCKED, DEADLCK, STALE_FH, FBIG, Lock, LockArgs}
use Rattle.definitions.specs.Hosts.{StoreCall, StoreAnswer, NotAsked, Yes, Refused, after_store}
use Rattle.definitions.specs.Outgoing.{Callback, Outgoing, Message, Granted, GrantedMsg, Notify, Destination, ToHost, ToConnection, oldest_that, older, call_of_xid, call_of_cookie}
use Rattle.definitions.specs.Ranges.{is_stale, is_too_far, request_of, unlock_of}
use Rattle.definitions.specs.Replies.{AnswerReading, Unreadable, AcceptedSuccess, OtherAnswer}
use Rattle.definitions.specs.Waits.{same_request, is_waiting, closes_cycle}
use Rattle.definitions.specs.World.{World, Limits, with_setting, with_waiter, with_hosts, slots_free}
use Rattle.definitions.specs.Rulings.{Response, Ruling, stays, ruled_answer}
use Rattle.definitions.specs.LockRules.{LockAsk, tells_of, with_lock, row_asked, after_row, free_lock, blocked_lock, lock_rules}
use Rattle.definitions.specs.Grants.{TableChange, TableStays, TableChanges, world_without_call, became, grant_answered, granted_res_rules, granted_res_at, granted_res_of, notice_answered, ruling_on_success, answered_success, answered_otherwise, answer_rules}
use Rattle.definitions.specs.Answer.{lock_ask, caller_row, lock_unless, lock_verdict, lock_answer, nm_lock_answer, lock_msg_answer}
use Rattle.definitions.proofs.MoveLaws.{by_cond}
use Rattle.definition_laws.specs.Polls.{IsUntold, IsUntoldIfGranted, PollLaw, UnlocksAnother, UnlocksNothing, Unlocks, LateAnswerLaw}

abbrev tells : Request → Outgoing → Bool
tells r c = tells_of r c.callback.message

-- ---- an answer that is GRANTED

none_without : (p : Outgoing → Bool) (calls : List Outgoing) → is_any p (list_without p calls) ≡ false
none_without p [] = refl
none_without p (c ∷ calls) = go (p c) refl (none_without p calls)
  where
    go : (b : Bool) → p c ≡ b → is_any p (list_without p calls) ≡ false → is_any p (cond b (list_without p calls) (c ∷ list_without p calls)) ≡ false
    go true e h = h
    go false e h = ap (λ b. b || is_any p (list_without p calls)) e ∙ h

locked_untold : (v : World) (r : Request) → v.rules.polls_end_grants ≡ true → IsUntold r (with_lock v r)
locked_untold v r on = ap (λ b. is_any (tells r) (cond b (list_without (tells r) v.calls) v.calls)) on ∙ none_without (tells r) v.calls

abbrev is_granted : Stat → Bool
is_granted GRANTED = true
is_granted _ = false

module _ (limits : Limits) (w : World) (a : LockArgs) (ask : LockAsk) (on : w.rules.polls_end_grants ≡ true) (mine : ask.request ≡ request_of a.exclusive a.alock) where
  abbrev BothUntold : Ruling (Response Stat) → Type 0
  BothUntold r = IsUntoldIfGranted a r.agreed × IsUntoldIfGranted a r.refused

  otherwise : (stat : Stat) (v : World) → is_granted stat ≡ false → IsUntoldIfGranted a (record { says = stat; world = v })
  otherwise stat v e = λ h. absurd (true≢false (sym (ap is_granted h) ∙ e))

  refused_untold : (stat : Stat) → is_granted stat ≡ false → BothUntold (stays w stat)
  refused_untold stat e = (otherwise stat w e, otherwise stat w e)

  row_otherwise : (o : Option StoreCall) (stat : Stat) (change : World → World) → is_granted stat ≡ false → BothUntold (after_row w o stat change)
  row_otherwise None stat change e = (otherwise stat (change w) e, otherwise stat (change w) e)
  row_otherwise (Some call) stat change e = (otherwise stat (change (with_hosts w (after_store w.hosts call))) e, otherwise DENIED_NOLOCKS w refl)

  untold : (v : World) → v.rules.polls_end_grants ≡ true → IsUntold (request_of a.exclusive a.alock) (with_lock v ask.request)
  untold v e = ap (λ r. is_any (tells r) (with_lock v ask.request).calls) (sym mine) ∙ locked_untold v ask.request e

  row_granted : (o : Option StoreCall) → BothUntold (after_row w o GRANTED (λ v. with_lock v ask.request))
  row_granted None = (λ h. untold w on, λ h. untold w on)
  row_granted (Some call) = (λ h. untold (with_hosts w (after_store w.hosts call)) on, otherwise DENIED_NOLOCKS w refl)

  blocked_untold : BothUntold (blocked_lock w ask)
  blocked_untold =
      by_cond BothUntold (is_waiting ask.request w.waiters) (after_row w (row_asked w ask.row) BLOCKED (λ v. v)) _ (λ _. row_otherwise (row_asked w ask.row) BLOCKED (λ v. v) refl)
      (λ _. by_cond BothUntold (closes_cycle w.settings w.waiters ask.request) (stays w DEADLCK) _ (λ _. refused_untold DEADLCK refl)
      (λ _. by_cond BothUntold (eqb ask.slots 0) (stays w DENIED_NOLOCKS) _ (λ _. refused_untold DENIED_NOLOCKS refl)
      (λ _. row_otherwise (row_asked w ask.row) BLOCKED (λ v. with_waiter v (record { request = ask.request; callback = ask.callback })) refl)))

  rules_untold : BothUntold (lock_rules limits w ask)
  rules_untold =
      by_cond BothUntold (conflicts w.settings ask.request) (cond (ask.block && not ask.reclaim) (blocked_lock w ask) (stays w DENIED)) (free_lock limits w ask)
      (λ _. by_cond BothUntold (ask.block && not ask.reclaim) (blocked_lock w ask) (stays w DENIED) (λ _. blocked_untold) (λ _. refused_untold DENIED refl))
      (λ _. by_cond BothUntold (lacks_room limits.runs (quotas_of w.hosts) w.settings ask.request) (stays w DENIED_NOLOCKS) (after_row w (row_asked w ask.row) GRANTED (λ v. with_lock v ask.request)) (λ _. refused_untold DENIED_NOLOCKS refl) (λ _. row_granted (row_asked w ask.row)))

  verdict_untold : BothUntold (lock_verdict limits w a ask)
  verdict_untold = go (is_stale a.alock.fh) (is_too_far a.alock.l_offset a.alock.l_len) (admits w.phase (Locking a.reclaim))
    where
      go : (b c d : Bool) → BothUntold (lock_unless limits w ask (cond b (Some STALE_FH) (cond c (Some FBIG) (cond d None (Some DENIED_GRACE_PERIOD)))))
      go true c d = refused_untold STALE_FH refl
      go false true d = refused_untold FBIG refl
      go false false false = refused_untold DENIED_GRACE_PERIOD refl
      go false false true = rules_untold

  ruled_untold : (store : StoreAnswer) → IsUntoldIfGranted a (ruled_answer store (lock_verdict limits w a ask))
  ruled_untold NotAsked = verdict_untold.1
  ruled_untold Yes = verdict_untold.0
  ruled_untold Refused = verdict_untold.1

pub poll_law : PollLaw
poll_law = record {
  locks = λ limits w version a store on. ruled_untold limits w a (lock_ask a (caller_row a) (Granted version a.exclusive a.alock) (slots_free limits w)) on refl store;
  unmonitored_locks = λ limits w version a store on. ruled_untold limits w a (lock_ask a None (Granted version a.exclusive a.alock) (slots_free limits w)) on refl store;
  message_locks = λ limits w version a store on. ruled_untold limits w a (lock_ask a (caller_row a) (GrantedMsg version a.exclusive a.alock) (slots_free limits w - 1)) on refl store;
}

-- ---- answers that come late

-- what is found has what none of them has not
found_untold : (test p : Outgoing → Bool) (calls : List Outgoing) → is_any p calls ≡ false → (c : Outgoing) → oldest_that test calls ≡ Some c → p c ≡ false
found_untold test p [] none c e = absurd (none-some c e)
found_untold test p (d ∷ calls) none c e =
    let parts = or_parts (p d) (is_any p calls) none in
    go (test d) (oldest_that test calls) parts.0 (found_untold test p calls parts.1) e
  where
    kept : (rest : Option Outgoing) → p d ≡ false → ((x : Outgoing) → rest ≡ Some x → p x ≡ false) → p (older rest d) ≡ false
    kept None h more = h
    kept (Some x) h more = by_cond (λ (y : Outgoing). p y ≡ false) _ x d (λ _. more x refl) (λ _. h)

    go : (b : Bool) (rest : Option Outgoing) → p d ≡ false → ((x : Outgoing) → rest ≡ Some x → p x ≡ false) → cond b (Some (older rest d)) rest ≡ Some c → p c ≡ false
    go true rest h more k = ap p (sym (same_Some (older rest d) c k)) ∙ kept rest h more
    go false rest h more k = more c k

module _ (limits : Limits) (w : World) (r : Request) where
  abbrev Late : World → Type 0
  Late v = UnlocksAnother r w.settings v.settings

  grant_late : (c : Outgoing) (exclusive : Bool) (alock : Lock) (stat : Option Stat) → same_request (request_of exclusive alock) r ≡ false → Late (grant_answered limits w c alock stat).world
  grant_late c exclusive alock (Some DENIED) other =
      by_cond (λ (t : Response TableChange). Late t.world) (is_refused limits.runs (quotas_of w.hosts) w.settings (unlock_of alock)) (became TableStays (world_without_call w c)) (became TableChanges (with_setting (world_without_call w c) (unlock_of alock)))
      (λ _. UnlocksNothing)
      (λ _. Unlocks exclusive alock other)
  grant_late c exclusive alock (Some DENIED_GRACE_PERIOD) other = UnlocksNothing
  grant_late c exclusive alock _ other = UnlocksNothing

  abbrev BothLate : Ruling (Response TableChange) → Type 0
  BothLate ruling = Late ruling.agreed.world × Late ruling.refused.world

  notice_late : (c : Outgoing) (to : Destination) → BothLate (notice_answered w c to)
  notice_late c (ToHost name) = (UnlocksNothing, UnlocksNothing)
  notice_late c (ToConnection l) = (UnlocksNothing, UnlocksNothing)

  succeeded_late : (c : Outgoing) (stat : Option Stat) (m : Message) → tells_of r m ≡ false → BothLate (ruling_on_success limits w c stat m)
  succeeded_late c stat (Granted version exclusive alock) other = (grant_late c exclusive alock stat other, grant_late c exclusive alock stat other)
  succeeded_late c stat (Notify name state) other = notice_late c c.callback.to
  succeeded_late c stat _ other = (UnlocksNothing, UnlocksNothing)

  replied_late : (reading : AnswerReading) → IsUntold r w → BothLate (answer_rules limits w reading)
  replied_late Unreadable none = (UnlocksNothing, UnlocksNothing)
  replied_late (AcceptedSuccess xid stat) none = go (call_of_xid xid w.calls) refl
    where
      go : (o : Option Outgoing) → call_of_xid xid w.calls ≡ o → BothLate (answered_success limits w stat o)
      go None e = (UnlocksNothing, UnlocksNothing)
      go (Some c) e = succeeded_late c stat c.callback.message (found_untold _ (tells r) w.calls none c e)
  replied_late (OtherAnswer xid) none = go (call_of_xid xid w.calls)
    where
      go : (o : Option Outgoing) → BothLate (answered_otherwise w o)
      go None = (UnlocksNothing, UnlocksNothing)
      go (Some c) = (UnlocksNothing, UnlocksNothing)

  granted_res_late : (cookie : Bytes) (stat : Stat) → IsUntold r w → Late (granted_res_rules limits w cookie stat).world
  granted_res_late cookie stat none = go (call_of_cookie cookie w.calls) refl
    where
      by_message_of : (c : Outgoing) (m : Message) → tells_of r m ≡ false → Late (granted_res_of limits w stat c m).world
      by_message_of c (GrantedMsg version exclusive alock) other = grant_late c exclusive alock (Some stat) other
      by_message_of c _ other = UnlocksNothing

      go : (o : Option Outgoing) → call_of_cookie cookie w.calls ≡ o → Late (granted_res_at limits w stat o).world
      go None e = UnlocksNothing
      go (Some c) e = by_message_of c c.callback.message (found_untold _ (tells r) w.calls none c e)

  ruled_late : (store : StoreAnswer) (ruling : Ruling (Response TableChange)) → BothLate ruling → Late (ruled_answer store ruling).world
  ruled_late NotAsked ruling h = h.1
  ruled_late Yes ruling h = h.0
  ruled_late Refused ruling h = h.1

pub late_answer_law : LateAnswerLaw
late_answer_law = record {
  replies = λ limits w reading store r none. ruled_late limits w r store (answer_rules limits w reading) (replied_late limits w r reading none);
  granted_res = λ limits w cookie stat r none. granted_res_late limits w r cookie stat none;
}
