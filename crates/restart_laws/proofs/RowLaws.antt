-- Rows stay, and what is told of a lock that stands is of a host with a row.
use Rattle.std.proofs.Common.{◌≡◌, ℕ, zero, suc, Bool, true, false, cond, ◌&&◌, ◌||◌, leb, List, [], ◌∷◌, length, take, refl, sym, ap, subst, ◌∙◌, Option, Some, None, inl, inr}
use Rattle.std.proofs.lemmas.Bool.{true≢false, and_parts}
use Rattle.std.proofs.lemmas.Slice.Eq.{bytes_eq-Decides}
use Rattle.std.proofs.lemmas.Option.{same_Some, none-some}
use Rattle.definitions.specs.Bytes.{Bytes, Holds, same_bytes, first_that, without_first}
use Rattle.definitions.specs.Nlm.{Version, Stat, Null, Test, Locks, Cancel, Unlock, TestMsg, LockMsg, CancelMsg, UnlockMsg, GrantedRes, ShareCall, Unshare, NmLock, FreeAll, LockArgs}
use Rattle.definitions.specs.Hosts.{Hosts, StoreCall, StoreAnswer, NotAsked, Yes, Refused, has_row}
use Rattle.definition_laws.specs.Monitored.{stands}
use Rattle.definitions.specs.Shown.{shown_stat}
use Rattle.definitions.specs.Replies.{Call, Nlm, Nsm, SystemErr, Ignored, Turned, Asks}
use Rattle.definitions.specs.World.{World, the_limits, slots_free}
use Rattle.definitions.specs.Rulings.{Response, Ruling, each, decided_ruling, ruled_answer}
use Rattle.definitions.specs.Outgoing.{Outgoing, next_due}
use Rattle.definitions.specs.Answer.{Answered, gives, answer_of_response, sent_back, by_reply, by_call, by_message, lock_callback, lock_answer, lock_msg_answer, ruling}
use Rattle.definitions.specs.Step.{Peer, KeptPair, State, Event, Take, Send, Answer, Silent, Local, GraceOver, Restart, Completion, Applied, Starved, Stepped, look, is_same_key, is_success, is_kept_kind, is_restart, kept_after, taken_step, applied_step, starved_step, sent_step, restart, step, store_call, with_row_stored}
use Rattle.definitions.specs.Replay.{fits}
use Rattle.definition_laws.specs.Asking.{hosts_after}
use Rattle.definitions.specs.Uses.{new_pair}
use Rattle.definitions.proofs.MoveLaws.{by_cond}
use Rattle.definition_laws.proofs.StoreLaws.{store_law}
use Rattle.definition_laws.proofs.StandingLaws.{shown_law}
use Rattle.definition_laws.proofs.MonitoredLaws.{monitored_law}
use Rattle.definition_laws.proofs.SideSteps.{settle_keeps}
use Rattle.hosts_db.proofs.Stays.{store_keeps}
use Rattle.call_codec.specs.Readings.{IsReading, OneReading}
use Rattle.restart_laws.specs.Rows.{monitored_by, tells_lock, telling_of, telling, PairHasRow, KeptHaveRows}
use Rattle.definitions.proofs.Lists.{holds_first}

-- ---- a row stays

module _ (name : Bytes) where
  asked_keeps : (hosts : Hosts) (o : Option StoreCall) (store : StoreAnswer) → has_row hosts name ≡ true → has_row (hosts_after hosts o store) name ≡ true
  asked_keeps hosts None store e = e
  asked_keeps hosts (Some call) Yes e = store_keeps name hosts call e
  asked_keeps hosts (Some call) NotAsked e = e
  asked_keeps hosts (Some call) Refused e = e

pub step_keeps : (s : State) (event : Event) (completion : Completion) (store : StoreAnswer) → fits the_limits s (record { event = event; completion = completion; store = store }) ≡ true → (name : Bytes) → has_row s.world.hosts name ≡ true → has_row (step the_limits s event completion store).state.world.hosts name ≡ true
step_keeps s event completion store fit name e =
    subst (λ (hosts : Hosts). has_row hosts name ≡ true) (sym (store_law the_limits s event completion store fit)) (asked_keeps name s.world.hosts (store_call the_limits s event) store e)

-- ---- what is told of a call that is done for the first time

one_side : (a b : Bool) → b ≡ false → (a || b) ≡ true → a ≡ true
one_side true b e h = refl
one_side false b e h = absurd (true≢false (sym h ∙ e))

ruled_each : {A B : Type 0} (f : A → B) (store : StoreAnswer) (r : Ruling A) → ruled_answer store (each f r) ≡ f (ruled_answer store r)
ruled_each f NotAsked r = refl
ruled_each f Yes r = refl
ruled_each f Refused r = refl

ruled_decided : {A : Type 0} (x : A) (store : StoreAnswer) → ruled_answer store (decided_ruling x) ≡ x
ruled_decided x NotAsked = refl
ruled_decided x Yes = refl
ruled_decided x Refused = refl

-- if this says that a lock stands, the host has a row
abbrev HasIfAnswered : Bytes → Answered → Type 0
HasIfAnswered name a = tells_lock (telling_of a) ≡ true → has_row a.world.hosts name ≡ true

module _ (w : World) (version : Version) (a : LockArgs) (store : StoreAnswer) where
  replied_has : HasIfAnswered a.alock.caller_name (ruled_answer store (by_reply version a.cookie (lock_answer the_limits w version a)))
  replied_has =
      let r = lock_answer the_limits w version a in
      let t = ruled_answer store r in
      subst (HasIfAnswered a.alock.caller_name) (sym (ruled_each (answer_of_response version a.cookie) store r))
      (λ told. (monitored_law the_limits w version a store).0 (sym (shown_law version t.says) ∙ one_side (stands (shown_stat version t.says)) false refl told))

  called_has : HasIfAnswered a.alock.caller_name (ruled_answer store (by_message the_limits w (lock_callback version a) (lock_msg_answer the_limits w version a)))
  called_has =
      let r = lock_msg_answer the_limits w version a in
      let t = ruled_answer store r in
      let back : Response Stat → Answered = λ told. sent_back (lock_callback version a told.says) told.world in
      by_cond (λ (q : Ruling Answered). HasIfAnswered a.alock.caller_name (ruled_answer store q)) (leb 1 (slots_free the_limits w)) (by_call (lock_callback version a) r) (decided_ruling (gives w SystemErr))
      (λ _. subst (HasIfAnswered a.alock.caller_name) (sym (ruled_each back store r)) (λ told. (monitored_law the_limits w version a store).1 (sym (shown_law version t.says) ∙ one_side (stands (shown_stat version t.says)) false refl told)))
      (λ _. subst (HasIfAnswered a.alock.caller_name) (sym (ruled_decided (gives w SystemErr) store)) (λ told. absurd (true≢false (sym told))))

answered_has : (w : World) (local : Bool) (call : Call) (store : StoreAnswer) (name : Bytes) → monitored_by call ≡ Some name → HasIfAnswered name (ruled_answer store (ruling the_limits w local call))
answered_has w local (Nlm version (Locks a)) store name e = subst (λ (n : Bytes). HasIfAnswered n (ruled_answer store (ruling the_limits w local (Nlm version (Locks a))))) (same_Some a.alock.caller_name name e) (replied_has w version a store)
answered_has w local (Nlm version (LockMsg a)) store name e = subst (λ (n : Bytes). HasIfAnswered n (ruled_answer store (ruling the_limits w local (Nlm version (LockMsg a))))) (same_Some a.alock.caller_name name e) (called_has w version a store)
answered_has w local (Nlm version Null) store name e = absurd (none-some name e)
answered_has w local (Nlm version (Test a)) store name e = absurd (none-some name e)
answered_has w local (Nlm version (Cancel a)) store name e = absurd (none-some name e)
answered_has w local (Nlm version (Unlock a)) store name e = absurd (none-some name e)
answered_has w local (Nlm version (TestMsg a)) store name e = absurd (none-some name e)
answered_has w local (Nlm version (CancelMsg a)) store name e = absurd (none-some name e)
answered_has w local (Nlm version (UnlockMsg a)) store name e = absurd (none-some name e)
answered_has w local (Nlm version (GrantedRes a)) store name e = absurd (none-some name e)
answered_has w local (Nlm version (ShareCall a)) store name e = absurd (none-some name e)
answered_has w local (Nlm version (Unshare a)) store name e = absurd (none-some name e)
answered_has w local (Nlm version (NmLock a)) store name e = absurd (none-some name e)
answered_has w local (Nlm version (FreeAll host state)) store name e = absurd (none-some name e)
answered_has w local (Nsm call) store name e = absurd (none-some name e)

-- the same behind settle
fresh_has : (s : State) (peer : Peer) (asked : Bytes) (xid : ℕ) (call : Call) (store : StoreAnswer) (name : Bytes) → monitored_by call ≡ Some name → tells_lock (telling s peer call store None) ≡ true → has_row (taken_step the_limits s peer asked xid call store None).state.world.hosts name ≡ true
fresh_has s peer asked xid call store name e told =
    let a = ruled_answer store (ruling the_limits s.world peer.local call) in
    subst (λ (hosts : Hosts). has_row hosts name ≡ true) (sym (settle_keeps the_limits a.world).hosts) (answered_has s.world peer.local call store name e told)

-- ---- kept replies

same_record : (peer : Peer) (asked : Bytes) (kept : List KeptPair) (k : KeptPair) → first_that (is_same_key peer asked) kept ≡ Some k → k.asked ≡ asked
same_record peer asked [] k e = absurd (none-some k e)
same_record peer asked (j ∷ kept) k e = go (is_same_key peer asked j) refl e (same_record peer asked kept k)
  where
    go : (b : Bool) → is_same_key peer asked j ≡ b → cond b (Some j) (first_that (is_same_key peer asked) kept) ≡ Some k → (first_that (is_same_key peer asked) kept ≡ Some k → k.asked ≡ asked) → k.asked ≡ asked
    go true h found more = ap (λ (x : KeptPair). x.asked) (sym (same_Some j k found)) ∙ (bytes_eq-Decides j.asked asked).0 (and_parts (same_bytes j.asked asked) _ h).0
    go false h found more = more found

module _ (P : KeptPair → Type 0) where
  abbrev All : List KeptPair → Type 0
  All kept = (k : KeptPair) → Holds kept k → P k

  all_more : (j : KeptPair) (kept : List KeptPair) → P j → All kept → All (j ∷ kept)
  all_more j kept p all k (inl e) = subst P e p
  all_more j kept p all k (inr h) = all k h

  all_but_first : (test : KeptPair → Bool) (kept : List KeptPair) → All kept → All (without_first test kept)
  all_but_first test [] all k h = absurd h
  all_but_first test (j ∷ kept) all k h = go (test j) (all_but_first test kept (λ k h. all k (inr h))) k h
    where
      go : (b : Bool) → All (without_first test kept) → All (cond b kept (j ∷ without_first test kept))
      go true rest = λ k h. all k (inr h)
      go false rest = all_more j (without_first test kept) (all j (inl refl)) rest

  all_of_front : (n : ℕ) (kept : List KeptPair) → All kept → All (take n kept)
  all_of_front zero kept all k h = absurd h
  all_of_front (suc n) [] all k h = absurd h
  all_of_front (suc n) (j ∷ kept) all k h = all_more j (take n kept) (all j (inl refl)) (all_of_front n kept (λ k h. all k (inr h))) k h

  module _ (s : State) (all : All s.kept) where
    taken_all : (peer : Peer) (asked : Bytes) (xid : ℕ) (call : Call) (store : StoreAnswer) (o : Option KeptPair) → look s peer asked ≡ o → (o ≡ None → P (new_pair peer asked xid (ruled_answer store (ruling the_limits s.world peer.local call)))) → All (taken_step the_limits s peer asked xid call store o).state.kept
    taken_all peer asked xid call store (Some k) e new =
        by_cond (λ (t : Stepped). All t.state.kept) (leb (length k.callbacks) (slots_free the_limits s.world)) _ _
        (λ _. all_more k _ (all k (holds_first (is_same_key peer asked) s.kept k e)) (all_but_first (is_same_key k.peer k.asked) s.kept all))
        (λ _. all)
    taken_all peer asked xid call store None e new =
        let a = ruled_answer store (ruling the_limits s.world peer.local call) in
        by_cond All (is_restart peer call store) [] (kept_after the_limits peer asked xid call a s.kept) (λ _. λ k h. absurd h)
        (λ _. by_cond All (is_success a.outcome && is_kept_kind call) (take the_limits.kept (new_pair peer asked xid a ∷ s.kept)) s.kept
        (λ _. all_of_front the_limits.kept (new_pair peer asked xid a ∷ s.kept) (all_more (new_pair peer asked xid a) s.kept (new refl) all))
        (λ _. all))

    abbrev IsNewKept : Event → StoreAnswer → Type 0
    IsNewKept (Take peer asked (Asks xid call)) store = look s peer asked ≡ None → P (new_pair peer asked xid (ruled_answer store (ruling the_limits s.world peer.local call)))
    IsNewKept _ store = Unit {0}

    sent_all : (o : Option Outgoing) → All (sent_step s o).state.kept
    sent_all None = all
    sent_all (Some c) = all

    restart_all : (store : StoreAnswer) → All (restart s store).state.kept
    restart_all Yes = λ k h. absurd h
    restart_all NotAsked = all
    restart_all Refused = all

    applied_all : (event : Event) (store : StoreAnswer) → IsNewKept event store → All (applied_step the_limits s event store).state.kept
    applied_all (Take peer asked Ignored) store new = all
    applied_all (Take peer asked (Turned xid refusal)) store new = all
    applied_all (Take peer asked (Asks xid call)) store new = taken_all peer asked xid call store (look s peer asked) refl new
    applied_all Send store new = sent_all (next_due s.world.calls)
    applied_all (Answer reading) store new = all
    applied_all (Silent number) store new = all
    applied_all (Local l line) store new = all
    applied_all GraceOver store new = all
    applied_all Restart store new = restart_all store

    row_all : (call : Call) (o : Option StoreCall) (store : StoreAnswer) → All (with_row_stored s call o store).kept
    row_all (Nlm version (Locks a)) (Some call) Yes = all
    row_all (Nlm version (LockMsg a)) (Some call) Yes = all
    row_all _ _ _ = all

    starved_all : (event : Event) (store : StoreAnswer) → All (starved_step the_limits s event store).state.kept
    starved_all (Take peer asked Ignored) store = all
    starved_all (Take peer asked (Turned xid refusal)) store = all
    starved_all (Take peer asked (Asks xid call)) store = row_all call (store_call the_limits s (Take peer asked (Asks xid call))) store
    starved_all (Local l line) store = all
    starved_all _ store = all

-- a record that was taken has its reading
abbrev pub IsRead : Event → Type 0
IsRead (Take peer asked reading) = IsReading asked reading
IsRead _ = Unit {0}

still : (s : State) (event : Event) (completion : Completion) (store : StoreAnswer) → fits the_limits s (record { event = event; completion = completion; store = store }) ≡ true → KeptHaveRows s → (k : KeptPair) → Holds s.kept k → PairHasRow (step the_limits s event completion store).state.world.hosts k
still s event completion store fit old k h xid call name reads is told = step_keeps s event completion store fit name (old k h xid call name reads is told)

same_call : (xid other : ℕ) (call asked : Call) → Asks xid call ≡ Asks other asked → asked ≡ call
same_call xid other call asked e = cc

module _ (one : OneReading) (s : State) (store : StoreAnswer) where
  newly_has : (hosts : Hosts) (event : Event) → IsRead event → hosts ≡ (applied_step the_limits s event store).state.world.hosts → (all : (k : KeptPair) → Holds s.kept k → PairHasRow hosts k) → IsNewKept (PairHasRow hosts) s all event store
  newly_has hosts (Take peer asked Ignored) reads same all = tt
  newly_has hosts (Take peer asked (Turned xid refusal)) reads same all = tt
  newly_has hosts (Take peer asked (Asks xid call)) reads same all = λ none other again name also is told.
      let e : again ≡ call = same_call xid other call again (one asked (Asks xid call) (Asks other again) reads also) in
      subst (λ (h : Hosts). has_row h name ≡ true) (sym same)
      (subst (λ (o : Option KeptPair). has_row (taken_step the_limits s peer asked xid call store o).state.world.hosts name ≡ true) (sym none)
      (fresh_has s peer asked xid call store name (ap monitored_by (sym e) ∙ is) told))
  newly_has hosts _ reads same all = tt

pub kept_rows : (one : OneReading) (s : State) (event : Event) (completion : Completion) (store : StoreAnswer) → fits the_limits s (record { event = event; completion = completion; store = store }) ≡ true → IsRead event → KeptHaveRows s → KeptHaveRows (step the_limits s event completion store).state
kept_rows one s event Applied store fit reads old =
    let hosts = (applied_step the_limits s event store).state.world.hosts in
    let all = still s event Applied store fit old in
    applied_all (PairHasRow hosts) s all event store (newly_has one s store hosts event reads refl all)
kept_rows one s event Starved store fit reads old = starved_all (PairHasRow (starved_step the_limits s event store).state.world.hosts) s (still s event Starved store fit old) event store

pub standing_has : (s : State) (peer : Peer) (asked : Bytes) (xid : ℕ) (call : Call) (store : StoreAnswer) → fits the_limits s (record { event = Take peer asked (Asks xid call); completion = Applied; store = store }) ≡ true → IsReading asked (Asks xid call) → KeptHaveRows s → (name : Bytes) → monitored_by call ≡ Some name → tells_lock (telling s peer call store (look s peer asked)) ≡ true → has_row (applied_step the_limits s (Take peer asked (Asks xid call)) store).state.world.hosts name ≡ true
standing_has s peer asked xid call store fit reads old name is told = go (look s peer asked) refl told
  where
    go : (o : Option KeptPair) → look s peer asked ≡ o → tells_lock (telling s peer call store o) ≡ true → has_row (applied_step the_limits s (Take peer asked (Asks xid call)) store).state.world.hosts name ≡ true
    go (Some k) e t =
        let also = subst (λ (bytes : Bytes). IsReading bytes (Asks xid call)) (sym (same_record peer asked s.kept k e)) reads in
        step_keeps s (Take peer asked (Asks xid call)) Applied store fit name (old k (holds_first (is_same_key peer asked) s.kept k e) xid call name also is t)
    go None e t = subst (λ (o : Option KeptPair). has_row (taken_step the_limits s peer asked xid call store o).state.world.hosts name ≡ true) (sym e) (fresh_has s peer asked xid call store name is t)
