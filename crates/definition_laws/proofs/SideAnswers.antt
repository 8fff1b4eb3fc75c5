-- Each call and line, by what it changes beside the table.
use Rattle.std.proofs.Common.{◌≡◌, ℕ, ◌-◌, Bool, true, false, cond, leb, List, [], ◌∷◌, length, map, refl, sym, ap, subst, ◌∙◌, Option, Some, None, ℤ, inl, inr}
use Rattle.std.proofs.lemmas.Bool.{true≢false}
use Rattle.std.proofs.lemmas.Option.{none-some}
use Rattle.std.specs.Ordering.{int_eq}
use Rattle.definitions.specs.Bytes.{Bytes}
use Rattle.definitions.specs.Settings.{Mode}
use Rattle.definitions.specs.Shares.{Share, is_denied, has_no_room, with_share, without_share}
use Rattle.definitions.specs.Phases.{Phase, Grace, Normal, Testing, Sharing, Unsharing, admits}
use Rattle.definitions.specs.Nlm.{Version, Stat, STALE_FH, DENIED_GRACE_PERIOD, ShareArgs, NlmCall, Null, Test, Locks, Cancel, Unlock, TestMsg, LockMsg, CancelMsg, UnlockMsg, GrantedRes, ShareCall, Unshare, NmLock, FreeAll}
use Rattle.definitions.specs.Nsm.{MyId, SmNull, SmStat, SmMon, SmUnmon, SmUnmonAll, SmSimuCrash, SmNotify}
use Rattle.definitions.specs.Hosts.{Hosts, HostRow, Watch, Begin, Seen, StoreAnswer, NotAsked, Yes, Refused, after_store, row_of, watches_of, Quota, has_row}
use Rattle.definitions.specs.Outgoing.{Callback, Granted, GrantedMsg, LocalLock, is_grant, is_grant_to}
use Rattle.definitions.specs.Ranges.{is_stale, file_refusal, line_unlock}
use Rattle.definitions.specs.Replies.{Call, Nlm, Nsm, SystemErr, Line, GetLock, SetLock, SetLockWait, Close, Table, HostList, Stop, BadLine, LineReply, SetQuota, LineAbsent}
use Rattle.definitions.specs.World.{World, Limits, with_hosts, with_all_due, without_host_of, restarted_world, restart_callback, opening_with, first_number, slots_free, closed_by}
use Rattle.definitions.specs.Rulings.{Response, Ruling, decided_ruling, ruled_answer, stays}
use Rattle.definitions.specs.Answer.{Answered, gives, lock_ask, caller_row, lock_msg_answer, cancel_answer, unlock_answer, if_slots, by_reply, by_call, by_message, sent_back, lock_callback, cancel_callback, unlock_callback, share_unless, share_of, unshare_unless, nlm_answer, ruling_after_store, notified_answer, notify_rules, status_callback, nsm_answer, ruling}
use Rattle.definitions.specs.Lines.{line_refusal, line_answer, set_unless, line_sets, line_ask, quota_stored}
use Rattle.definitions.specs.Step.{Peer, is_restart}
use Rattle.definitions.proofs.WorldLaws.{due_keeps}
use Rattle.definition_laws.specs.Standing.{IsShareReclaimOf}
use Rattle.definitions.proofs.MoveLaws.{by_cond, by_store}
use Rattle.definition_laws.proofs.CallLaws.{left_same, left_without, AllOf, ContinuesBy, begins, all_due}
use Rattle.definition_laws.proofs.SideMoves.{ShareMove, HostGoes, ShareGoes, ShareComes, AllGo, IsPlain, SideMoves, IsSame, same, same_sides, unmoved_sides, going, BothSame, verdict_same, cancel_answer_same, unlock_answer_same, unlock_same, lock_same, goes_left, goes_due}
use Rattle.definition_laws.proofs.SideGrants.{granted_res_sides}

module _ (R : Share → Type 0) where
  -- ---- answers of calls: both worlds, and callbacks that tell of no grant

  pub record AnswerSides (begin : Bool) (w : World) (r : Ruling Answered) : Type 0 where
    pub agreed : SideMoves R begin w r.agreed.world
    pub refused : SideMoves R false w r.refused.world
    pub agreed_due : AllOf IsPlain r.agreed.due
    pub refused_due : AllOf IsPlain r.refused.due

  -- the same either way
  decided_sides : (w : World) (a : Answered) → SideMoves R false w a.world → AllOf IsPlain a.due → AnswerSides false w (decided_ruling a)
  decided_sides w a m h = record { agreed = m; refused = m; agreed_due = h; refused_due = h }

  said_sides : (begin : Bool) (w : World) (a : Answered) → IsSame w a.world → AllOf IsPlain a.due → AnswerSides begin w (decided_ruling a)
  said_sides begin w a m h = record { agreed = same_sides R begin w a.world m; refused = same_sides R false w a.world m; agreed_due = h; refused_due = h }

  reply_sides : (w : World) (version : Version) (cookie : Bytes) (r : Ruling (Response Stat)) → BothSame w r → AnswerSides false w (by_reply version cookie r)
  reply_sides w version cookie r m = record { agreed = same_sides R false w r.agreed.world m.0; refused = same_sides R false w r.refused.world m.1; agreed_due = tt; refused_due = tt }

  slots_sides : (n : ℕ) (limits : Limits) (w : World) (r : Ruling Answered) → AnswerSides false w r → AnswerSides false w (if_slots n limits w r)
  slots_sides n limits w r m = by_cond (AnswerSides false w) (leb n (slots_free limits w)) r (decided_ruling (gives w SystemErr)) (λ _. m) (λ _. said_sides false w (gives w SystemErr) (same w) tt)

  due_sides : (w v : World) (callbacks : List Callback) → AllOf IsPlain callbacks → SideMoves R false w v → SideMoves R false w (with_all_due v callbacks)
  due_sides w v callbacks h m = record {
    name = (due_keeps v callbacks).own_name ∙ m.name;
    rules = (due_keeps v callbacks).rules ∙ m.rules;
    shares = subst (ShareMove R w.phase w.shares) (sym (due_keeps v callbacks).shares) m.shares;
    calls = elim m.calls [ inl g ↦ inl (goes_due w v callbacks h g) | inr k ↦ absurd (true≢false (sym k.0)) ];
  }

  sent_sides : (w v : World) (callback : Callback) → is_grant callback.message ≡ false → IsSame w v → SideMoves R false w (sent_back callback v).world
  sent_sides w v callback h m = due_sides w v (callback ∷ []) (h, tt) (same_sides R false w v m)

  message_sides : (limits : Limits) (w : World) (callback : Stat → Callback) (r : Ruling (Response Stat)) → ((stat : Stat) → is_grant (callback stat).message ≡ false) → BothSame w r → AnswerSides false w (by_message limits w callback r)
  message_sides limits w callback r h m =
      slots_sides 1 limits w (by_call callback r)
      (record {
        agreed = sent_sides w r.agreed.world (callback r.agreed.says) (h r.agreed.says) m.0;
        refused = sent_sides w r.refused.world (callback r.refused.says) (h r.refused.says) m.1;
        agreed_due = (h r.agreed.says, tt);
        refused_due = (h r.refused.says, tt);
      })

  -- ---- shares, and drops of a host

  share_sides : (limits : Limits) (w : World) (a : ShareArgs) → ((new : Share) → (a.reclaim ≡ true) × (new ≡ share_of a) → R new) → (o : Option Stat) → file_refusal w (Sharing a.reclaim) a.fh ≡ o → SideMoves R false w (share_unless limits w a o).world
  share_sides limits w a mine (Some stat) e = unmoved_sides R false w
  share_sides limits w a mine None e =
      let new = share_of a in
      by_cond (λ (t : Response Stat). SideMoves R false w t.world) (is_denied w.shares new) _ _ (λ _. unmoved_sides R false w)
      (λ h. by_cond (λ (t : Response Stat). SideMoves R false w t.world) (has_no_room limits.shares w.shares new) _ _ (λ _. unmoved_sides R false w)
      (λ _. record {
        name = refl;
        rules = refl;
        shares = ShareComes new h (λ g. mine new (reclaims (is_stale a.fh) w.phase g e, refl));
        calls = inl (goes_left w (record w { shares = with_share new w.shares }) w.calls (left_same w.calls) refl refl refl);
      }))
    where
      asked : (b : Bool) → cond b None (Some DENIED_GRACE_PERIOD) ≡ None → b ≡ true
      asked true e = refl
      asked false e = absurd (none-some DENIED_GRACE_PERIOD (sym e))

      reclaims : (b : Bool) (phase : Phase) → phase ≡ Grace → cond b (Some STALE_FH) (cond (admits phase (Sharing a.reclaim)) None (Some DENIED_GRACE_PERIOD)) ≡ None → a.reclaim ≡ true
      reclaims true phase g e = absurd (none-some STALE_FH (sym e))
      reclaims false Grace g e = asked a.reclaim e
      reclaims false Normal g e = absurd (true≢false (ap (λ p. admits p Testing) g))

  unshare_sides : (w : World) (a : ShareArgs) (o : Option Stat) → SideMoves R false w (unshare_unless w a o).world
  unshare_sides w a (Some stat) = unmoved_sides R false w
  unshare_sides w a None = record {
    name = refl;
    rules = refl;
    shares = ShareGoes (share_of a);
    calls = inl (goes_left w (record w { shares = without_share (share_of a) w.shares }) w.calls (left_same w.calls) refl refl refl);
  }

  drop_sides : (w : World) (hosts : Hosts) (name : Bytes) → SideMoves R false w (without_host_of (with_hosts w hosts) name)
  drop_sides w hosts name = record {
    name = refl;
    rules = refl;
    shares = HostGoes name;
    calls = inl (goes_left w (without_host_of (with_hosts w hosts) name) (without_host_of w name).calls (left_without (is_grant_to name) w.calls) refl refl refl);
  }

  -- ---- every call

  pub nlm_sides : (limits : Limits) (w : World) (version : Version) (call : NlmCall) → ((new : Share) → IsShareReclaimOf (Nlm version call) new → R new) → AnswerSides false w (nlm_answer limits w version call)
  nlm_sides limits w version Null mine = said_sides false w _ (same w) tt
  nlm_sides limits w version (Test a) mine = said_sides false w _ (same w) tt
  nlm_sides limits w version (Locks a) mine = reply_sides w version a.cookie _ (verdict_same limits w a (lock_ask a (caller_row a) (Granted version a.exclusive a.alock) (slots_free limits w)))
  nlm_sides limits w version (NmLock a) mine = reply_sides w version a.cookie _ (verdict_same limits w a (lock_ask a None (Granted version a.exclusive a.alock) (slots_free limits w)))
  nlm_sides limits w version (Cancel a) mine = reply_sides w version a.cookie _ (cancel_answer_same w a)
  nlm_sides limits w version (Unlock a) mine = reply_sides w version a.cookie _ (unlock_answer_same limits w a)
  nlm_sides limits w version (TestMsg a) mine = slots_sides 1 limits w _ (decided_sides w _ (sent_sides w w _ refl (same w)) (refl, tt))
  nlm_sides limits w version (LockMsg a) mine =
      message_sides limits w (lock_callback version a) (lock_msg_answer limits w version a) (λ stat. refl) (verdict_same limits w a (lock_ask a (caller_row a) (GrantedMsg version a.exclusive a.alock) (slots_free limits w - 1)))
  nlm_sides limits w version (CancelMsg a) mine = message_sides limits w (cancel_callback version a) (cancel_answer w a) (λ stat. refl) (cancel_answer_same w a)
  nlm_sides limits w version (UnlockMsg a) mine = message_sides limits w (unlock_callback version a) (unlock_answer limits w a) (λ stat. refl) (unlock_answer_same limits w a)
  nlm_sides limits w version (GrantedRes a) mine = decided_sides w _ (granted_res_sides R limits w a.cookie a.stat) tt
  nlm_sides limits w version (ShareCall a) mine = decided_sides w _ (share_sides limits w a mine (file_refusal w (Sharing a.reclaim) a.fh) refl) tt
  nlm_sides limits w version (Unshare a) mine = decided_sides w _ (unshare_sides w a (file_refusal w Unsharing a.fh)) tt
  nlm_sides limits w version (FreeAll name state) mine = decided_sides w _ (drop_sides w w.hosts name) tt

  hosts_same : (w : World) (hosts : Hosts) → IsSame w (with_hosts w hosts)
  hosts_same w hosts = record { name = refl; rules = refl; phase = refl; shares = refl; calls = left_same w.calls; next = refl }

  status_plain : (state : ℤ) (watches : List Watch) → AllOf IsPlain (map (status_callback state) watches)
  status_plain state [] = tt
  status_plain state (x ∷ watches) = (refl, status_plain state watches)

  notify_sides : (limits : Limits) (w : World) (name : Bytes) (state : ℤ) (o : Option HostRow) → AnswerSides false w (notify_rules limits w name state o)
  notify_sides limits w name state None = said_sides false w _ (same w) tt
  notify_sides limits w name state (Some row) =
      let hosts = after_store w.hosts (Seen name state) in
      let watches = watches_of hosts name in
      by_cond (AnswerSides false w) (int_eq row.seen state) _ _ (λ _. said_sides false w _ (same w) tt)
      (λ _. slots_sides (length (watches_of w.hosts name)) limits w (ruling_after_store w (Seen name state) (notified_answer name state) (gives w SystemErr))
      (record {
        agreed = due_sides w (without_host_of (with_hosts w hosts) name) (map (status_callback state) watches) (status_plain state watches) (drop_sides w hosts name);
        refused = unmoved_sides R false w;
        agreed_due = status_plain state watches;
        refused_due = tt;
      }))

  notices_plain : (name : Bytes) (own : ℕ) (rows : List HostRow) → AllOf IsPlain (map (restart_callback name own) rows)
  notices_plain name own [] = tt
  notices_plain name own (row ∷ rows) = (refl, notices_plain name own rows)

  pub restart_sides : (w v : World) (hosts : Hosts) → v.own_name ≡ w.own_name → v.rules ≡ w.rules → SideMoves R true w (restarted_world v hosts)
  restart_sides w v hosts e f =
      let callbacks = map (restart_callback v.own_name hosts.own) hosts.rows in
      let start = opening_with v.own_name v.rules hosts in
      let kept = due_keeps start callbacks in
      record {
        name = kept.own_name ∙ e;
        rules = kept.rules ∙ f;
        shares = subst (ShareMove R w.phase w.shares) (sym kept.shares) AllGo;
        calls = inr (
          refl,
          record {
            behind = subst (λ (h : Hosts). ContinuesBy IsPlain [] (first_number h.own) (restarted_world v hosts)) (sym kept.hosts) (all_due IsPlain [] (first_number hosts.own) start callbacks (notices_plain v.own_name hosts.own hosts.rows) (begins IsPlain [] start refl));
            waiters = kept.waiters;
          },
        );
      }

  stored_sides : (w : World) (hosts : Hosts) (a b : Answered) → a.world ≡ with_hosts w hosts → b.world ≡ w → SideMoves R false w a.world × SideMoves R false w b.world
  stored_sides w hosts a b e f = (subst (SideMoves R false w) (sym e) (same_sides R false w (with_hosts w hosts) (hosts_same w hosts)), subst (SideMoves R false w) (sym f) (unmoved_sides R false w))

  crash_sides : (limits : Limits) (w : World) (local : Bool) → AnswerSides local w (nsm_answer limits w local SmSimuCrash)
  crash_sides limits w true = record { agreed = restart_sides w (with_hosts w (after_store w.hosts Begin)) (after_store w.hosts Begin) refl refl; refused = unmoved_sides R false w; agreed_due = tt; refused_due = tt }
  crash_sides limits w false = said_sides false w _ (same w) tt

  monitor_sides : (limits : Limits) (w : World) (local : Bool) (name : Bytes) (my : MyId) (bytes : Bytes) → AnswerSides false w (nsm_answer limits w local (SmMon name my bytes))
  monitor_sides limits w true name my bytes = record { agreed = same_sides R false w _ (hosts_same w _); refused = unmoved_sides R false w; agreed_due = tt; refused_due = tt }
  monitor_sides limits w false name my bytes = said_sides false w _ (same w) tt

  unmonitor_sides : (limits : Limits) (w : World) (local : Bool) (name : Bytes) (my : MyId) → AnswerSides false w (nsm_answer limits w local (SmUnmon name my))
  unmonitor_sides limits w true name my = record { agreed = same_sides R false w _ (hosts_same w _); refused = unmoved_sides R false w; agreed_due = tt; refused_due = tt }
  unmonitor_sides limits w false name my = said_sides false w _ (same w) tt

  unmonitor_all_sides : (limits : Limits) (w : World) (local : Bool) (my : MyId) → AnswerSides false w (nsm_answer limits w local (SmUnmonAll my))
  unmonitor_all_sides limits w true my = record { agreed = same_sides R false w _ (hosts_same w _); refused = unmoved_sides R false w; agreed_due = tt; refused_due = tt }
  unmonitor_all_sides limits w false my = said_sides false w _ (same w) tt

  pub call_sides : (limits : Limits) (w : World) (peer : Peer) (call : Call) → ((new : Share) → IsShareReclaimOf call new → R new) → AnswerSides (is_restart peer call Yes) w (ruling limits w peer.local call)
  call_sides limits w peer (Nlm version call) mine = nlm_sides limits w version call mine
  call_sides limits w peer (Nsm SmNull) mine = said_sides false w _ (same w) tt
  call_sides limits w peer (Nsm (SmStat name)) mine = said_sides false w _ (same w) tt
  call_sides limits w peer (Nsm (SmMon name my bytes)) mine = monitor_sides limits w peer.local name my bytes
  call_sides limits w peer (Nsm (SmUnmon name my)) mine = unmonitor_sides limits w peer.local name my
  call_sides limits w peer (Nsm (SmUnmonAll my)) mine = unmonitor_all_sides limits w peer.local my
  call_sides limits w peer (Nsm SmSimuCrash) mine = crash_sides limits w peer.local
  call_sides limits w peer (Nsm (SmNotify name state)) mine = notify_sides limits w name state (row_of w.hosts name)

  pub ruled_sides : (w : World) (peer : Peer) (call : Call) (store : StoreAnswer) (r : Ruling Answered) → AnswerSides (is_restart peer call Yes) w r → SideMoves R (is_restart peer call store) w (ruled_answer store r).world
  ruled_sides w peer call NotAsked r m = going R (is_restart peer call NotAsked) w r.refused.world m.refused
  ruled_sides w peer call Yes r m = m.agreed
  ruled_sides w peer call Refused r m = going R (is_restart peer call Refused) w r.refused.world m.refused

  pub ruled_due : (begin : Bool) (w : World) (store : StoreAnswer) (r : Ruling Answered) → AnswerSides begin w r → AllOf IsPlain (ruled_answer store r).due
  ruled_due begin w NotAsked r m = m.refused_due
  ruled_due begin w Yes r m = m.agreed_due
  ruled_due begin w Refused r m = m.refused_due

  -- ---- every line

  set_line_sides : (limits : Limits) (w : World) (l : ℕ) (block : Bool) (mode : Option Mode) (lock : LocalLock) → SideMoves R false w (set_unless limits w l block mode lock (line_refusal w lock)).world
  set_line_sides limits w l block mode lock = go (line_refusal w lock)
    where
      sets : (mode : Option Mode) → SideMoves R false w (line_sets limits w l block mode lock).world
      sets None = same_sides R false w _ (unlock_same limits w (line_unlock lock)).1
      sets (Some m) = same_sides R false w _ (lock_same limits w (line_ask l (slots_free limits w) block m lock)).1

      go : (o : Option LineReply) → SideMoves R false w (set_unless limits w l block mode lock o).world
      go (Some refusal) = unmoved_sides R false w
      go None = sets mode

  abbrev BothLines : World → Ruling (Response LineReply) → Type 0
  BothLines w r = SideMoves R false w r.agreed.world × SideMoves R false w r.refused.world

  unmoved_line : (w : World) → SideMoves R false w w × SideMoves R false w w
  unmoved_line w = (unmoved_sides R false w, unmoved_sides R false w)

  both_lines : (limits : Limits) (w : World) (l : ℕ) (line : Line) → BothLines w (line_answer limits w l line)
  both_lines limits w l (GetLock mode lock) = unmoved_line w
  both_lines limits w l (SetLock mode lock) = let m = set_line_sides limits w l false mode lock in (m, m)
  both_lines limits w l (SetLockWait mode lock) = let m = set_line_sides limits w l true mode lock in (m, m)
  both_lines limits w l (Close owner file) = let m = same_sides R false w (closed_by w file owner) (record { name = refl; rules = refl; phase = refl; shares = refl; calls = left_same _; next = refl }) in (m, m)
  both_lines limits w l Table = unmoved_line w
  both_lines limits w l HostList = unmoved_line w
  both_lines limits w l (SetQuota name runs) =
      by_cond (BothLines w) (has_row w.hosts name) (quota_stored w (Quota name runs)) (stays w LineAbsent)
      (λ _. (same_sides R false w _ (record { name = refl; rules = refl; phase = refl; shares = refl; calls = left_same _; next = refl }), unmoved_sides R false w))
      (λ _. unmoved_line w)
  both_lines limits w l Stop = unmoved_line w
  both_lines limits w l BadLine = unmoved_line w

  pub line_sides : (limits : Limits) (w : World) (l : ℕ) (line : Line) (store : StoreAnswer) → SideMoves R false w (ruled_answer store (line_answer limits w l line)).world
  line_sides limits w l line store = by_store (λ (t : Response LineReply). SideMoves R false w t.world) store (line_answer limits w l line) (both_lines limits w l line)
