-- How each call and line may change the table.
use Rattle.std.proofs.Common.{◌≡◌, ℕ, ◌+◌, ◌-◌, ◌≤◌, Bool, true, false, cond, ◌&&◌, eqb, leb, ltb, List, length, map, refl, sym, ap, subst, ◌∙◌, Option, Some, None, ℤ, arith}
use Rattle.std.proofs.lemmas.Bool.{true≢false, ltb-false, eqb-false, or_parts}
use Rattle.std.specs.Ordering.{int_eq}
use Rattle.std.proofs.lemmas.Option.{none-some}
use Rattle.definitions.specs.Bytes.{Bytes, list_without}
use Rattle.definitions.specs.Owners.{is_of_host, same_owner}
use Rattle.definitions.specs.Bytes.{same_bytes}
use Rattle.definitions.specs.Settings.{Mode, Request}
use Rattle.definitions.specs.Quotas.{quotas_of, is_refused}
use Rattle.definitions.specs.Shares.{is_denied, has_no_room, with_share}
use Rattle.definitions.specs.Phases.{Phase, Grace, Normal, CallKind, Testing, Locking, Cancelling, Unlocking, Sharing, Unsharing, LocalLocking, admits}
use Rattle.definitions.specs.Nlm.{Version, Stat, DENIED, DENIED_GRACE_PERIOD, STALE_FH, FBIG, Lock, LockArgs, CancelArgs, UnlockArgs, ShareArgs, NlmCall, Null, Test, Locks, Cancel, Unlock, TestMsg, LockMsg, CancelMsg, UnlockMsg, GrantedRes, ShareCall, Unshare, NmLock, FreeAll}
use Rattle.definitions.specs.Nsm.{NsmCall, SmNull, SmStat, SmMon, SmUnmon, SmUnmonAll, SmSimuCrash, SmNotify}
use Rattle.definitions.specs.Hosts.{Hosts, HostRow, Begin, Seen, StoreAnswer, NotAsked, Yes, Refused, after_store, row_of, watches_of, Acked, Quota, has_row}
use Rattle.definitions.specs.Outgoing.{Outgoing, Callback, Message, Granted, GrantedMsg, Notify, Destination, ToHost, ToConnection, LocalLock, call_of_xid, call_of_cookie}
use Rattle.definitions.specs.Ranges.{top, last_of, is_too_far, is_stale, range_refusal, file_refusal, request_of, unlock_of, line_unlock}
use Rattle.definitions.specs.Replies.{Call, Nlm, Nsm, SystemErr, AnswerReading, Unreadable, AcceptedSuccess, OtherAnswer, Line, GetLock, SetLock, SetLockWait, Close, Table, HostList, SetQuota, Stop, BadLine, LineReply, LineAbsent, LineFbig, LineGrace}
use Rattle.definitions.specs.Waits.{Waiter}
use Rattle.definitions.specs.World.{World, Limits, with_setting, with_hosts, with_due, with_all_due, without_host_of, restarted_world, restart_callback, opening_with, slots_free, closed_by}
use Rattle.definitions.specs.Rulings.{Response, Ruling, decided_ruling, ruled_answer, stays}
use Rattle.definitions.specs.LockRules.{NewHost}
use Rattle.definitions.specs.Grants.{TableChange, TableStays, TableChanges, world_without_call, became, grant_answered, granted_res_rules, granted_res_at, granted_res_of, notice_answered, ruling_on_success, answered_success, answered_otherwise, answer_rules}
use Rattle.definitions.specs.Answer.{Answered, gives, lock_ask, caller_row, lock_unless, lock_verdict, lock_msg_answer, cancel_unless, cancel_answer, unlock_unless, unlock_answer, if_slots, by_call, by_message, lock_callback, cancel_callback, unlock_callback, share_unless, share_of, unshare_unless, nlm_answer, ruling_after_store, notified_answer, notify_rules, status_callback, nsm_answer, ruling}
use Rattle.definitions.specs.Lines.{line_refusal, line_answer, set_unless, line_sets, line_ask, quota_stored}
use Rattle.definitions.specs.Moves.{TableMove, Stays, DropsHost, DropsOwner, Unlocks, Empties, AreRanges, Moves, ReclaimedBy, IsReclaimOf}
use Rattle.definitions.proofs.QuotaLaws.{AreKept, all_kept, store_keeps}
use Rattle.definitions.proofs.MoveLaws.{by_cond, by_store, unmoved, BothMove, stays_both, lock_moves, unlock_moves, cancel_moves, ranges_without}
use Rattle.definitions.proofs.WorldLaws.{due_keeps}

-- ---- what is known where a call with a range isn't refused

ordered : (offset len : ℕ) → is_too_far offset len ≡ false → offset ≤ last_of offset len
ordered offset len e = by_cond (λ n. offset ≤ n) (eqb len 0) top (offset + len - 1) (λ h. ltb-false top offset (or_parts (ltb top offset) (ltb top (last_of offset len)) e).0) (λ h. let k : len ≡ 0 → ⊥ = eqb-false len 0 h in more offset len k)
  where
    more : (a b : ℕ) → (b ≡ 0 → ⊥) → a ≤ a + b - 1
    more a b h = omega arith

pub admitted : (w : World) (kind : CallKind) (alock : Lock) → range_refusal w kind alock ≡ None → (alock.l_offset ≤ last_of alock.l_offset alock.l_len) × (admits w.phase kind ≡ true)
admitted w kind alock e = go (is_stale alock.fh) (is_too_far alock.l_offset alock.l_len) (admits w.phase kind) refl e
  where
    go : (a b c : Bool) → is_too_far alock.l_offset alock.l_len ≡ b → cond a (Some STALE_FH) (cond b (Some FBIG) (cond c None (Some DENIED_GRACE_PERIOD))) ≡ None → (alock.l_offset ≤ last_of alock.l_offset alock.l_len) × (c ≡ true)
    go true b c h k = absurd (none-some STALE_FH (sym k))
    go false true c h k = absurd (none-some FBIG (sym k))
    go false false true h k = (ordered alock.l_offset alock.l_len h, refl)
    go false false false h k = absurd (none-some DENIED_GRACE_PERIOD (sym k))

grace_reclaims : (phase : Phase) (reclaim : Bool) → admits phase (Locking reclaim) ≡ true → phase ≡ Grace → reclaim ≡ true
grace_reclaims Grace reclaim e g = e
grace_reclaims Normal reclaim e g = absurd (true≢false (ap (λ p. admits p Testing) g))

module _ (Reclaimed : Request → Type 0) where
  abbrev pub AnswerMoves : World → Ruling Answered → Type 0
  AnswerMoves w r = Moves Reclaimed w r.agreed.world × Moves Reclaimed w r.refused.world

  with_due_moves : (w v : World) (callback : Callback) → Moves Reclaimed w v → Moves Reclaimed w (with_due v callback)
  with_due_moves w v callback m = record { table = m.table; ranges = m.ranges; nobody = m.nobody }

  -- the same table and waiters
  pub same_moves : (w v : World) → v.settings ≡ w.settings → v.waiters ≡ w.waiters → Moves Reclaimed w v
  same_moves w v e k = record { table = subst (TableMove Reclaimed w.phase w.settings) (sym e) Stays; ranges = λ h. subst AreRanges (sym k) h; nobody = λ g h. k ∙ h }

  due_moves : (w v : World) (callbacks : List Callback) → Moves Reclaimed w v → Moves Reclaimed w (with_all_due v callbacks)
  due_moves w v callbacks m =
      let kept = due_keeps v callbacks in
      record {
        table = subst (TableMove Reclaimed w.phase w.settings) (sym kept.settings) m.table;
        ranges = λ h. subst AreRanges (sym kept.waiters) (m.ranges h);
        nobody = λ g h. kept.waiters ∙ m.nobody g h;
      }

  drop_moves : (w : World) (name : Bytes) → Moves Reclaimed w (without_host_of w name)
  drop_moves w name = record {
    table = DropsHost name;
    ranges = ranges_without (λ (x : Waiter). is_of_host name x.request.owner) w.waiters;
    nobody = λ g h. ap (list_without (λ (x : Waiter). is_of_host name x.request.owner)) h;
  }

  pub restart_moves : (w v : World) (hosts : Hosts) → Moves Reclaimed w (restarted_world v hosts)
  restart_moves w v hosts =
      let kept = due_keeps (opening_with v.own_name v.rules hosts) (map (restart_callback v.own_name hosts.own) hosts.rows) in
      record {
        table = subst (TableMove Reclaimed w.phase w.settings) (sym kept.settings) Empties;
        ranges = λ h. subst AreRanges (sym kept.waiters) tt;
        nobody = λ g h. kept.waiters;
      }

  -- ---- locks

  module _ (limits : Limits) (w : World) (a : LockArgs) (row : Option NewHost) (message : Message) (slots : ℕ) (mine : (r : Request) → ReclaimedBy a r → Reclaimed r) where
    verdict_moves : BothMove Reclaimed w (lock_verdict limits w a (lock_ask a row message slots))
    verdict_moves = go (range_refusal w (Locking a.reclaim) a.alock) refl
      where
        go : (o : Option Stat) → range_refusal w (Locking a.reclaim) a.alock ≡ o → BothMove Reclaimed w (lock_unless limits w (lock_ask a row message slots) o)
        go (Some stat) e = stays_both Reclaimed w stat
        go None e =
            let k = admitted w (Locking a.reclaim) a.alock e in
            lock_moves Reclaimed limits w (lock_ask a row message slots) k.0 (λ g. grace_reclaims w.phase a.reclaim k.1 g) (λ h. mine (request_of a.exclusive a.alock) (h, refl))

  cancel_answer_moves : (w : World) (a : CancelArgs) → BothMove Reclaimed w (cancel_answer w a)
  cancel_answer_moves w a = go (range_refusal w Cancelling a.alock)
    where
      go : (o : Option Stat) → BothMove Reclaimed w (cancel_unless w (request_of a.exclusive a.alock) o)
      go (Some stat) = stays_both Reclaimed w stat
      go None = cancel_moves Reclaimed w (request_of a.exclusive a.alock)

  unlock_answer_moves : (limits : Limits) (w : World) (a : UnlockArgs) → BothMove Reclaimed w (unlock_answer limits w a)
  unlock_answer_moves limits w a = go (range_refusal w Unlocking a.alock)
    where
      go : (o : Option Stat) → BothMove Reclaimed w (unlock_unless limits w a.alock o)
      go (Some stat) = stays_both Reclaimed w stat
      go None = unlock_moves Reclaimed limits w (unlock_of a.alock) refl

  if_slots_moves : (n : ℕ) (limits : Limits) (w : World) (r : Ruling Answered) → AnswerMoves w r → AnswerMoves w (if_slots n limits w r)
  if_slots_moves n limits w r m = by_cond (AnswerMoves w) (leb n (slots_free limits w)) r (decided_ruling (gives w SystemErr)) (λ _. m) (λ _. (unmoved Reclaimed w, unmoved Reclaimed w))

  message_moves : (limits : Limits) (w : World) (callback : Stat → Callback) (r : Ruling (Response Stat)) → BothMove Reclaimed w r → AnswerMoves w (by_message limits w callback r)
  message_moves limits w callback r m =
      if_slots_moves 1 limits w (by_call callback r)
      (with_due_moves w r.agreed.world _ m.0, with_due_moves w r.refused.world _ m.1)

  -- ---- shares

  share_moves : (limits : Limits) (w : World) (a : ShareArgs) (o : Option Stat) → Moves Reclaimed w (share_unless limits w a o).world
  share_moves limits w a (Some stat) = unmoved Reclaimed w
  share_moves limits w a None =
      by_cond (λ (t : Response Stat). Moves Reclaimed w t.world) (is_denied w.shares (share_of a)) _ _ (λ _. unmoved Reclaimed w)
      (λ _. by_cond (λ (t : Response Stat). Moves Reclaimed w t.world) (has_no_room limits.shares w.shares (share_of a)) _ _ (λ _. unmoved Reclaimed w) (λ _. same_moves w (record w { shares = with_share (share_of a) w.shares }) refl refl))

  unshare_moves : (w : World) (a : ShareArgs) (o : Option Stat) → Moves Reclaimed w (unshare_unless w a o).world
  unshare_moves w a (Some stat) = unmoved Reclaimed w
  unshare_moves w a None = same_moves w (unshare_unless w a None).world refl refl

  -- ---- answers to the server's own calls

  abbrev pub ResponseMoves : TableChange → World → World → Type 0
  ResponseMoves TableStays w v = (v.settings ≡ w.settings) × (v.waiters ≡ w.waiters) × AreKept (quotas_of w.hosts) (quotas_of v.hosts)
  ResponseMoves TableChanges w v = Moves Reclaimed w v

  pub told_moves : (change : TableChange) (w v : World) → ResponseMoves change w v → Moves Reclaimed w v
  told_moves TableStays w v m = same_moves w v m.0 m.1
  told_moves TableChanges w v m = m

  put : (w : World) → (w.settings ≡ w.settings) × (w.waiters ≡ w.waiters) × AreKept (quotas_of w.hosts) (quotas_of w.hosts)
  put w = (refl, refl, all_kept (quotas_of w.hosts))

  abbrev pub ChangeMoves : World → Response TableChange → Type 0
  ChangeMoves w t = ResponseMoves t.says w t.world

  grant_moves : (limits : Limits) (w : World) (c : Outgoing) (alock : Lock) (stat : Option Stat) → ChangeMoves w (grant_answered limits w c alock stat)
  grant_moves limits w c alock (Some DENIED) =
      by_cond (ChangeMoves w) (is_refused limits.runs (quotas_of w.hosts) w.settings (unlock_of alock)) (became TableStays (world_without_call w c)) (became TableChanges (with_setting (world_without_call w c) (unlock_of alock))) (λ _. put w) (λ _. record { table = Unlocks (unlock_of alock) refl; ranges = λ h. h; nobody = λ g h. h })
  grant_moves limits w c alock (Some DENIED_GRACE_PERIOD) = put w
  grant_moves limits w c alock _ = put w

  granted_res_moves : (limits : Limits) (w : World) (cookie : Bytes) (stat : Stat) → ChangeMoves w (granted_res_rules limits w cookie stat)
  granted_res_moves limits w cookie stat = go (call_of_cookie cookie w.calls)
    where
      by_message_of : (c : Outgoing) (m : Message) → ChangeMoves w (granted_res_of limits w stat c m)
      by_message_of c (GrantedMsg version exclusive alock) = grant_moves limits w c alock (Some stat)
      by_message_of c _ = put w

      go : (o : Option Outgoing) → ChangeMoves w (granted_res_at limits w stat o)
      go None = put w
      go (Some c) = by_message_of c c.callback.message

  abbrev pub BothChange : World → Ruling (Response TableChange) → Type 0
  BothChange w r = ChangeMoves w r.agreed × ChangeMoves w r.refused

  notice_moves : (w : World) (c : Outgoing) (to : Destination) → BothChange w (notice_answered w c to)
  notice_moves w c (ToHost name) = ((refl, refl, store_keeps w.hosts (Acked name w.hosts.own) refl), put w)
  notice_moves w c (ToConnection l) = (put w, put w)

  succeeded_moves : (limits : Limits) (w : World) (c : Outgoing) (stat : Option Stat) (m : Message) → BothChange w (ruling_on_success limits w c stat m)
  succeeded_moves limits w c stat (Granted version exclusive alock) = (grant_moves limits w c alock stat, grant_moves limits w c alock stat)
  succeeded_moves limits w c stat (GrantedMsg version exclusive alock) = (put w, put w)
  succeeded_moves limits w c stat (Notify name state) = notice_moves w c c.callback.to
  succeeded_moves limits w c stat _ = (put w, put w)

  pub answer_moves : (limits : Limits) (w : World) (reading : AnswerReading) → BothChange w (answer_rules limits w reading)
  answer_moves limits w Unreadable = (put w, put w)
  answer_moves limits w (AcceptedSuccess xid stat) = go (call_of_xid xid w.calls)
    where
      go : (o : Option Outgoing) → BothChange w (answered_success limits w stat o)
      go None = (put w, put w)
      go (Some c) = succeeded_moves limits w c stat c.callback.message
  answer_moves limits w (OtherAnswer xid) = go (call_of_xid xid w.calls)
    where
      go : (o : Option Outgoing) → BothChange w (answered_otherwise w o)
      go None = (put w, put w)
      go (Some c) = (put w, put w)

  -- ---- every call

  pub nlm_moves : (limits : Limits) (w : World) (version : Version) (call : NlmCall) → ((r : Request) → IsReclaimOf (Nlm version call) r → Reclaimed r) → AnswerMoves w (nlm_answer limits w version call)
  nlm_moves limits w version Null mine = (unmoved Reclaimed w, unmoved Reclaimed w)
  nlm_moves limits w version (Test a) mine = (unmoved Reclaimed w, unmoved Reclaimed w)
  nlm_moves limits w version (Locks a) mine = verdict_moves limits w a (caller_row a) (Granted version a.exclusive a.alock) (slots_free limits w) mine
  nlm_moves limits w version (NmLock a) mine = verdict_moves limits w a None (Granted version a.exclusive a.alock) (slots_free limits w) mine
  nlm_moves limits w version (Cancel a) mine = cancel_answer_moves w a
  nlm_moves limits w version (Unlock a) mine = unlock_answer_moves limits w a
  nlm_moves limits w version (TestMsg a) mine = if_slots_moves 1 limits w _ (with_due_moves w w _ (unmoved Reclaimed w), with_due_moves w w _ (unmoved Reclaimed w))
  nlm_moves limits w version (LockMsg a) mine =
      message_moves limits w (lock_callback version a) (lock_msg_answer limits w version a) (verdict_moves limits w a (caller_row a) (GrantedMsg version a.exclusive a.alock) (slots_free limits w - 1) mine)
  nlm_moves limits w version (CancelMsg a) mine = message_moves limits w (cancel_callback version a) (cancel_answer w a) (cancel_answer_moves w a)
  nlm_moves limits w version (UnlockMsg a) mine = message_moves limits w (unlock_callback version a) (unlock_answer limits w a) (unlock_answer_moves limits w a)
  nlm_moves limits w version (GrantedRes a) mine =
      let t = granted_res_rules limits w a.cookie a.stat in
      let m = told_moves t.says w t.world (granted_res_moves limits w a.cookie a.stat) in
      (m, m)
  nlm_moves limits w version (ShareCall a) mine =
      let m = share_moves limits w a (file_refusal w (Sharing a.reclaim) a.fh) in
      (m, m)
  nlm_moves limits w version (Unshare a) mine =
      let m = unshare_moves w a (file_refusal w Unsharing a.fh) in
      (m, m)
  nlm_moves limits w version (FreeAll name state) mine = (drop_moves w name, drop_moves w name)

  hosts_moves : (w : World) (hosts : Hosts) → Moves Reclaimed w (with_hosts w hosts)
  hosts_moves w hosts = same_moves w (with_hosts w hosts) refl refl

  drop_moves_with : (w : World) (hosts : Hosts) (name : Bytes) → Moves Reclaimed w (without_host_of (with_hosts w hosts) name)
  drop_moves_with w hosts name = record {
    table = DropsHost name;
    ranges = ranges_without (λ (x : Waiter). is_of_host name x.request.owner) w.waiters;
    nobody = λ g h. ap (list_without (λ (x : Waiter). is_of_host name x.request.owner)) h;
  }

  notify_moves : (limits : Limits) (w : World) (name : Bytes) (state : ℤ) (o : Option HostRow) → AnswerMoves w (notify_rules limits w name state o)
  notify_moves limits w name state None = (unmoved Reclaimed w, unmoved Reclaimed w)
  notify_moves limits w name state (Some row) =
      by_cond (AnswerMoves w) (int_eq row.seen state) _ _ (λ _. (unmoved Reclaimed w, unmoved Reclaimed w))
      (λ _. if_slots_moves (length (watches_of w.hosts name)) limits w (ruling_after_store w (Seen name state) (notified_answer name state) (gives w SystemErr)) (due_moves w (without_host_of (with_hosts w (after_store w.hosts (Seen name state))) name) (map (status_callback state) (watches_of (after_store w.hosts (Seen name state)) name)) (drop_moves_with w (after_store w.hosts (Seen name state)) name), unmoved Reclaimed w))

  pub nsm_moves : (limits : Limits) (w : World) (local : Bool) (call : NsmCall) → AnswerMoves w (nsm_answer limits w local call)
  nsm_moves limits w local SmNull = (unmoved Reclaimed w, unmoved Reclaimed w)
  nsm_moves limits w local (SmStat name) = (unmoved Reclaimed w, unmoved Reclaimed w)
  nsm_moves limits w true (SmMon name my bytes) = (hosts_moves w _, unmoved Reclaimed w)
  nsm_moves limits w false (SmMon name my bytes) = (unmoved Reclaimed w, unmoved Reclaimed w)
  nsm_moves limits w true (SmUnmon name my) = (hosts_moves w _, unmoved Reclaimed w)
  nsm_moves limits w false (SmUnmon name my) = (unmoved Reclaimed w, unmoved Reclaimed w)
  nsm_moves limits w true (SmUnmonAll my) = (hosts_moves w _, unmoved Reclaimed w)
  nsm_moves limits w false (SmUnmonAll my) = (unmoved Reclaimed w, unmoved Reclaimed w)
  nsm_moves limits w true SmSimuCrash = (restart_moves w (with_hosts w (after_store w.hosts Begin)) (after_store w.hosts Begin), unmoved Reclaimed w)
  nsm_moves limits w false SmSimuCrash = (unmoved Reclaimed w, unmoved Reclaimed w)
  nsm_moves limits w local (SmNotify name state) = notify_moves limits w name state (row_of w.hosts name)

  pub call_moves : (limits : Limits) (w : World) (local : Bool) (call : Call) → ((r : Request) → IsReclaimOf call r → Reclaimed r) → AnswerMoves w (ruling limits w local call)
  call_moves limits w local (Nlm version call) mine = nlm_moves limits w version call mine
  call_moves limits w local (Nsm call) mine = nsm_moves limits w local call

  pub ruled_moves : (w : World) (store : StoreAnswer) (r : Ruling Answered) → AnswerMoves w r → Moves Reclaimed w (ruled_answer store r).world
  ruled_moves w NotAsked r m = m.1
  ruled_moves w Yes r m = m.0
  ruled_moves w Refused r m = m.1

  -- ---- every line

  line_admitted : (w : World) (lock : LocalLock) → line_refusal w lock ≡ None → (lock.offset ≤ last_of lock.offset lock.len) × (admits w.phase LocalLocking ≡ true)
  line_admitted w lock e = go (is_too_far lock.offset lock.len) (admits w.phase LocalLocking) refl e
    where
      go : (b c : Bool) → is_too_far lock.offset lock.len ≡ b → cond b (Some LineFbig) (cond c None (Some LineGrace)) ≡ None → (lock.offset ≤ last_of lock.offset lock.len) × (c ≡ true)
      go true c h k = absurd (none-some LineFbig (sym k))
      go false true h k = (ordered lock.offset lock.len h, refl)
      go false false h k = absurd (none-some LineGrace (sym k))

  not_in_grace : (phase : Phase) → admits phase LocalLocking ≡ true → phase ≡ Grace → ⊥
  not_in_grace Grace e g = true≢false (sym e)
  not_in_grace Normal e g = true≢false (ap (λ p. admits p Testing) g)

  set_line_moves : (limits : Limits) (w : World) (l : ℕ) (block : Bool) (mode : Option Mode) (lock : LocalLock) → Moves Reclaimed w (set_unless limits w l block mode lock (line_refusal w lock)).world
  set_line_moves limits w l block mode lock = go (line_refusal w lock) refl
    where
      sets : (mode : Option Mode) → (lock.offset ≤ last_of lock.offset lock.len) × (admits w.phase LocalLocking ≡ true) → Moves Reclaimed w (line_sets limits w l block mode lock).world
      sets None k = (unlock_moves Reclaimed limits w (line_unlock lock) refl).1
      sets (Some m) k = (lock_moves Reclaimed limits w (line_ask l (slots_free limits w) block m lock) k.0 (λ g. absurd (not_in_grace w.phase k.1 g)) (λ e. absurd (true≢false (sym e)))).1

      go : (o : Option LineReply) → line_refusal w lock ≡ o → Moves Reclaimed w (set_unless limits w l block mode lock o).world
      go (Some refusal) e = unmoved Reclaimed w
      go None e = sets mode (line_admitted w lock e)

  abbrev BothLines : World → Ruling (Response LineReply) → Type 0
  BothLines w r = Moves Reclaimed w r.agreed.world × Moves Reclaimed w r.refused.world

  unmoved_line : (w : World) → Moves Reclaimed w w × Moves Reclaimed w w
  unmoved_line w = (unmoved Reclaimed w, unmoved Reclaimed w)

  both_lines : (limits : Limits) (w : World) (l : ℕ) (line : Line) → BothLines w (line_answer limits w l line)
  both_lines limits w l (GetLock mode lock) = unmoved_line w
  both_lines limits w l (SetLock mode lock) = let m = set_line_moves limits w l false mode lock in (m, m)
  both_lines limits w l (SetLockWait mode lock) = let m = set_line_moves limits w l true mode lock in (m, m)
  both_lines limits w l (Close owner file) =
      let m : Moves Reclaimed w (closed_by w file owner) = record {
        table = DropsOwner file owner;
        ranges = ranges_without (λ (x : Waiter). same_bytes x.request.file file && same_owner x.request.owner owner) w.waiters;
        nobody = λ g h. ap (list_without (λ (x : Waiter). same_bytes x.request.file file && same_owner x.request.owner owner)) h;
      } in
      (m, m)
  both_lines limits w l Table = unmoved_line w
  both_lines limits w l HostList = unmoved_line w
  both_lines limits w l (SetQuota name runs) =
      by_cond (BothLines w) (has_row w.hosts name) (quota_stored w (Quota name runs)) (stays w LineAbsent)
      (λ _. (hosts_moves w (after_store w.hosts (Quota name runs)), unmoved Reclaimed w))
      (λ _. unmoved_line w)
  both_lines limits w l Stop = unmoved_line w
  both_lines limits w l BadLine = unmoved_line w

  pub line_moves : (limits : Limits) (w : World) (l : ℕ) (line : Line) (store : StoreAnswer) → Moves Reclaimed w (ruled_answer store (line_answer limits w l line)).world
  line_moves limits w l line store = by_store (λ (t : Response LineReply). Moves Reclaimed w t.world) store (line_answer limits w l line) (both_lines limits w l line)
