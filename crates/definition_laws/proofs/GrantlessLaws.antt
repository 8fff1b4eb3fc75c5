-- In grace nobody waits, and no call tells of a grant.
use Rattle.std.proofs.Common.{◌≡◌, ℕ, ◌+◌, ◌%◌, ◌^◌, Bool, true, false, cond, ◌&&◌, leb, List, [], ◌∷◌, ◌++◌, length, take, zero, suc, refl, sym, ap, subst, ◌∙◌, Option, Some, None, inl, inr}
use Rattle.std.proofs.lemmas.Bool.{true≢false, or_parts, or_from}
use Rattle.definitions.specs.Bytes.{Bytes, Holds, is_any, first_that, without_first}
use Rattle.definitions.specs.Settings.{Request}
use Rattle.definitions.specs.Shares.{Share}
use Rattle.definitions.specs.Phases.{Grace, Testing, admits}
use Rattle.definitions.specs.Hosts.{StoreCall, Begin, StoreAnswer, NotAsked, Yes, Refused, after_store}
use Rattle.definitions.specs.Nlm.{Locks, LockMsg}
use Rattle.definitions.specs.Outgoing.{Callback, Outgoing, is_grant, is_numbered, next_due, after_sending, after_silence, after_silence_at}
use Rattle.definitions.specs.Replies.{Call, Nlm, Ignored, Turned, Asks, AnswerReading}
use Rattle.definitions.specs.World.{World, Limits, settled_world, with_all_due, with_calls, slots_free, restarted_world, first_number}
use Rattle.definitions.specs.Rulings.{Response, ruled_answer}
use Rattle.definitions.specs.Grants.{TableChange, TableStays, TableChanges, answer_rules}
use Rattle.definitions.specs.Lines.{line_answer}
use Rattle.definitions.specs.Answer.{Answered, ruling}
use Rattle.definitions.specs.Step.{Peer, KeptPair, State, Event, Completion, Take, Send, Answer, Silent, Local, GraceOver, Restart, Applied, Starved, Stepped, applied_step, starved_step, step, taken_step, look, sent_step, restart, settled_after, is_same_key, is_restart, is_kept_kind, is_success, moved_to_front, with_row_stored, store_call, opening_state_with}
use Rattle.definitions.specs.Replay.{Done, after, state_after}
use Rattle.definition_laws.specs.Numbers.{numbered_calls, AreLeft, NoneLeft, IsGone, IsLeft, IsSameCall, AreRenewed}
use Rattle.definition_laws.specs.Standing.{IsGrantless, is_grant_call, GraceCallsLaw}
use Rattle.definitions.specs.Uses.{new_pair}
use Rattle.definitions.proofs.Lists.{have_without_first, holds_first}
use Rattle.definitions.proofs.MoveLaws.{by_cond}
use Rattle.definitions.specs.Moves.{Moves}
use Rattle.definitions.proofs.WorldLaws.{due_keeps}
use Rattle.definition_laws.proofs.AnswerMoves.{restart_moves, call_moves, ruled_moves, answer_moves, told_moves, line_moves}
use Rattle.definition_laws.proofs.StepLaws.{settled_nobody}
use Rattle.definition_laws.proofs.CallLaws.{left_same, left_sending, AllOf}
use Rattle.definition_laws.proofs.SideMoves.{IsPlain, GoesPlainlyOn, BeginsPlainly, SideMoves, goes_left, goes_due, goes_silent}
use Rattle.definition_laws.proofs.SideGrants.{answer_sides}
use Rattle.definition_laws.proofs.SideAnswers.{restart_sides, call_sides, ruled_sides, ruled_due, line_sides}
use Rattle.definition_laws.proofs.SideSteps.{settle_keeps}

-- ---- lists of calls that tell of no grant

abbrev HasNoGrant : List Outgoing → Type 0
HasNoGrant calls = is_any is_grant_call calls ≡ false

same_call : (c d : Outgoing) → IsSameCall c d → is_grant_call d ≡ is_grant_call c
same_call c d (inl e) = ap is_grant_call e
same_call c d (inr h) = ap is_grant_call h.1

plain_left : {before behind : List Outgoing} → AreLeft before behind → HasNoGrant before → HasNoGrant behind
plain_left NoneLeft e = refl
plain_left (IsGone {c = c} {before = before} h) e = plain_left h (or_parts (is_grant_call c) (is_any is_grant_call before) e).1
plain_left (IsLeft {c = c} {d = d} {before = before} {behind = behind} s h) e =
    let k = or_parts (is_grant_call c) (is_any is_grant_call before) e in
    or_from (is_grant_call d) (is_any is_grant_call behind) (same_call c d s ∙ k.0) (plain_left h k.1)

plain_middle : (xs ys : List Outgoing) (c : Outgoing) → HasNoGrant (xs ++ c ∷ ys) → (is_grant_call c ≡ false) × HasNoGrant (xs ++ ys)
plain_middle [] ys c e = or_parts (is_grant_call c) (is_any is_grant_call ys) e
plain_middle (x ∷ xs) ys c e =
    let k = or_parts (is_grant_call x) (is_any is_grant_call (xs ++ c ∷ ys)) e in
    let m = plain_middle xs ys c k.1 in
    (m.0, or_from (is_grant_call x) (is_any is_grant_call (xs ++ ys)) k.0 m.1)

plain_numbered : (first : ℕ) (callbacks : List Callback) → AllOf IsPlain callbacks → HasNoGrant (numbered_calls first callbacks)
plain_numbered first [] h = refl
plain_numbered first (l ∷ callbacks) h = or_from (is_grant l.message) (is_any is_grant_call (numbered_calls ((first + 1) % 2 ^ 64) callbacks)) h.0 (plain_numbered ((first + 1) % 2 ^ 64) callbacks h.1)

plain_both : (xs ys : List Outgoing) → HasNoGrant xs → HasNoGrant ys → HasNoGrant (xs ++ ys)
plain_both [] ys e h = h
plain_both (c ∷ xs) ys e h =
    let k = or_parts (is_grant_call c) (is_any is_grant_call xs) e in
    or_from (is_grant_call c) (is_any is_grant_call (xs ++ ys)) k.0 (plain_both xs ys k.1 h)

plain_renewed : (calls left again : List Outgoing) → AreRenewed calls left again → HasNoGrant calls → HasNoGrant (left ++ again)
plain_renewed calls left again (inl h) e = plain_both left again (plain_left h.0 e) (ap (is_any is_grant_call) h.1)
plain_renewed calls left again (inr d) e =
    let m = plain_middle d.front d.back d.call (subst HasNoGrant d.stood e) in
    plain_both left again (plain_left d.others m.1) (ap (is_any is_grant_call) d.due ∙ or_from (is_grant_call d.call) false m.0 refl)

plain_on : (w v : World) → GoesPlainlyOn w v → HasNoGrant w.calls → HasNoGrant v.calls
plain_on w v g h =
    ap (is_any is_grant_call) g.behind.rest.calls
    ∙ plain_both (g.left ++ g.again) (numbered_calls w.next g.behind.rest.callbacks) (plain_renewed w.calls g.left g.again g.in_order h) (plain_numbered w.next g.behind.rest.callbacks g.behind.each)

plain_begin : (v : World) → BeginsPlainly v → HasNoGrant v.calls
plain_begin v b = ap (is_any is_grant_call) b.behind.rest.calls ∙ plain_numbered (first_number v.hosts.own) b.behind.rest.callbacks b.behind.each

-- ---- worlds and kept replies

abbrev Quiet : World → Type 0
Quiet w = w.phase ≡ Grace → IsGrantless w

abbrev AllKept : List KeptPair → Type 0
AllKept [] = Unit {0}
AllKept (k ∷ kept) = AllOf IsPlain k.callbacks × AllKept kept

record IsQuiet (s : State) : Type 0 where
  world : Quiet s.world
  kept : AllKept s.kept

kept_one : (kept : List KeptPair) (k : KeptPair) → Holds kept k → AllKept kept → AllOf IsPlain k.callbacks
kept_one [] k h a = absurd h
kept_one (j ∷ kept) k (inl e) a = subst (λ (x : KeptPair). AllOf IsPlain x.callbacks) e a.0
kept_one (j ∷ kept) k (inr h) a = kept_one kept k h a.1

kept_fewer : (p : KeptPair → Bool) (kept : List KeptPair) → AllKept kept → AllKept (without_first p kept)
kept_fewer = have_without_first (λ (k : KeptPair). AllOf IsPlain k.callbacks) AllKept (λ k kept a. a) (λ k kept h a. (h, a))

kept_first : (n : ℕ) (kept : List KeptPair) → AllKept kept → AllKept (take n kept)
kept_first zero kept a = tt
kept_first (suc n) [] a = tt
kept_first (suc n) (k ∷ kept) a = (a.0, kept_first n kept a.1)

abbrev Anything : Request → Type 0
Anything r = Unit {0}

-- by the rules of a call, a line or an answer, and by the settle behind them
rules_quiet : (R : Share → Type 0) (begin : Bool) (w v : World) → SideMoves R begin w v → Moves Anything w v → Quiet w → Quiet v
rules_quiet R begin w v m t q g = elim m.calls [
  | inl k ↦ let old = q (sym k.phase ∙ g) in record { waiters = t.nobody (sym k.phase ∙ g) old.waiters; calls = plain_on w v k old.calls }
  | inr k ↦ record { waiters = k.1.waiters; calls = plain_begin v k.1 }
]

settled_quiet : (limits : Limits) (v : World) → Quiet v → Quiet (settled_world limits v)
settled_quiet limits v q g = let old = q (sym (settle_keeps limits v).phase ∙ g) in subst IsGrantless (sym (settled_nobody limits v old.waiters)) old

-- only calls change, and they go on
going_quiet : (w v : World) → v.waiters ≡ w.waiters → GoesPlainlyOn w v → Quiet w → Quiet v
going_quiet w v e k q g = let old = q (sym k.phase ∙ g) in record { waiters = e ∙ old.waiters; calls = plain_on w v k old.calls }

same_quiet : (w v : World) → v.phase ≡ w.phase → v.waiters ≡ w.waiters → v.calls ≡ w.calls → Quiet w → Quiet v
same_quiet w v p e c q g = let old = q (sym p ∙ g) in record { waiters = e ∙ old.waiters; calls = ap (is_any is_grant_call) c ∙ old.calls }

abbrev NoShare : Share → Type 0
NoShare new = Unit {0}

module _ (limits : Limits) (s : State) (quiet : IsQuiet s) where
  repeat_quiet : (peer : Peer) (asked : Bytes) (k : KeptPair) → look s peer asked ≡ Some k → IsQuiet (record { world = with_all_due s.world k.callbacks; kept = moved_to_front k s.kept })
  repeat_quiet peer asked k e =
      let plain = kept_one s.kept k (holds_first (is_same_key peer asked) s.kept k e) quiet.kept in
      let still = goes_left s.world s.world s.world.calls (left_same s.world.calls) refl refl refl in
      record {
        world = going_quiet s.world (with_all_due s.world k.callbacks) (due_keeps s.world k.callbacks).waiters (goes_due s.world s.world k.callbacks plain still) quiet.world;
        kept = (plain, kept_fewer (is_same_key k.peer k.asked) s.kept quiet.kept);
      }

  taken_quiet : (peer : Peer) (asked : Bytes) (xid : ℕ) (call : Call) (store : StoreAnswer) (o : Option KeptPair) → look s peer asked ≡ o → IsQuiet (taken_step limits s peer asked xid call store o).state
  taken_quiet peer asked xid call store (Some k) e =
      by_cond (λ (t : Stepped). IsQuiet t.state) (leb (length k.callbacks) (slots_free limits s.world)) _ _
      (λ _. repeat_quiet peer asked k e)
      (λ _. quiet)
  taken_quiet peer asked xid call store None e =
      let r = ruling limits s.world peer.local call in
      let sides = call_sides NoShare limits s.world peer call (λ new h. tt) in
      let moves = ruled_moves Anything s.world store r (call_moves Anything limits s.world peer.local call (λ q h. tt)) in
      record {
        world = settled_quiet limits (ruled_answer store r).world (rules_quiet NoShare (is_restart peer call store) s.world (ruled_answer store r).world (ruled_sides NoShare s.world peer call store r sides) moves quiet.world);
        kept = fresh_kept (ruled_answer store r) (ruled_due NoShare (is_restart peer call Yes) s.world store r sides) (is_restart peer call store) (is_kept_kind call);
      }
    where
      fresh_kept : (a : Answered) → AllOf IsPlain a.due → (b c : Bool) → AllKept (cond b [] (cond (is_success a.outcome && c) (take limits.kept (new_pair peer asked xid a ∷ s.kept)) s.kept))
      fresh_kept a h true c = tt
      fresh_kept a h false c = by_cond AllKept (is_success a.outcome && c) (take limits.kept (new_pair peer asked xid a ∷ s.kept)) s.kept (λ _. kept_first limits.kept (new_pair peer asked xid a ∷ s.kept) (h, quiet.kept)) (λ _. quiet.kept)

  sent_quiet : (o : Option Outgoing) → IsQuiet (sent_step s o).state
  sent_quiet None = quiet
  sent_quiet (Some c) =
      let v = with_calls s.world (after_sending s.world.calls) in
      record { world = going_quiet s.world v refl (goes_left s.world v (after_sending s.world.calls) (left_sending s.world.calls) refl refl refl) quiet.world; kept = quiet.kept }

  changed_quiet : (t : Response TableChange) → Quiet t.world → Quiet (settled_after limits t)
  changed_quiet t q = go t.says
    where
      go : (c : TableChange) → Quiet (elim c [ TableStays ↦ t.world | TableChanges ↦ settled_world limits t.world ])
      go TableStays = q
      go TableChanges = settled_quiet limits t.world q

  answered_quiet : (t : Response TableChange) → SideMoves NoShare false s.world t.world → Moves Anything s.world t.world → IsQuiet (record s { world = settled_after limits t })
  answered_quiet t m k = record { world = changed_quiet t (rules_quiet NoShare false s.world t.world m k quiet.world); kept = quiet.kept }

  answer_quiet : (reading : AnswerReading) (store : StoreAnswer) → IsQuiet (applied_step limits s (Answer reading) store).state
  answer_quiet reading Yes = let t = (answer_rules limits s.world reading).agreed in answered_quiet t (answer_sides NoShare limits s.world reading).0 (told_moves Anything t.says s.world t.world (answer_moves Anything limits s.world reading).0)
  answer_quiet reading NotAsked = let t = (answer_rules limits s.world reading).refused in answered_quiet t (answer_sides NoShare limits s.world reading).1 (told_moves Anything t.says s.world t.world (answer_moves Anything limits s.world reading).1)
  answer_quiet reading Refused = let t = (answer_rules limits s.world reading).refused in answered_quiet t (answer_sides NoShare limits s.world reading).1 (told_moves Anything t.says s.world t.world (answer_moves Anything limits s.world reading).1)

  silent_quiet : (number : ℕ) → Quiet (with_calls s.world (after_silence number s.world.calls))
  silent_quiet number = go (first_that (is_numbered number) s.world.calls) refl
    where
      go : (o : Option Outgoing) → first_that (is_numbered number) s.world.calls ≡ o → Quiet (with_calls s.world (after_silence_at o s.world.calls))
      go None e = same_quiet s.world (with_calls s.world s.world.calls) refl refl refl quiet.world
      go (Some c) e = let v = with_calls s.world (after_silence_at (Some c) s.world.calls) in going_quiet s.world v refl (goes_silent s.world number c e v refl refl refl) quiet.world

  begun_quiet : (store : StoreAnswer) → IsQuiet (restart s store).state
  begun_quiet Yes =
      let hosts = after_store s.world.hosts Begin in
      record { world = rules_quiet NoShare true s.world (restarted_world s.world hosts) (restart_sides NoShare s.world s.world hosts refl refl) (restart_moves Anything s.world s.world hosts) quiet.world; kept = tt }
  begun_quiet NotAsked = quiet
  begun_quiet Refused = quiet

  applied_quiet : (event : Event) (store : StoreAnswer) → IsQuiet (applied_step limits s event store).state
  applied_quiet (Take peer asked Ignored) store = quiet
  applied_quiet (Take peer asked (Turned xid refusal)) store = quiet
  applied_quiet (Take peer asked (Asks xid call)) store = taken_quiet peer asked xid call store (look s peer asked) refl
  applied_quiet Send store = sent_quiet (next_due s.world.calls)
  applied_quiet (Answer reading) store = answer_quiet reading store
  applied_quiet (Silent number) store = record { world = silent_quiet number; kept = quiet.kept }
  applied_quiet (Local l line) store =
      let v = (ruled_answer store (line_answer limits s.world l line)).world in
      record { world = settled_quiet limits v (rules_quiet NoShare false s.world v (line_sides NoShare limits s.world l line store) (line_moves Anything limits s.world l line store) quiet.world); kept = quiet.kept }
  applied_quiet GraceOver store = record { world = λ g. absurd (true≢false (ap (λ p. admits p Testing) g)); kept = quiet.kept }
  applied_quiet Restart store = begun_quiet store

  row_quiet : (call : Call) (o : Option StoreCall) (store : StoreAnswer) → IsQuiet (with_row_stored s call o store)
  row_quiet (Nlm version (Locks a)) (Some call) Yes = record { world = same_quiet s.world _ refl refl refl quiet.world; kept = quiet.kept }
  row_quiet (Nlm version (LockMsg a)) (Some call) Yes = record { world = same_quiet s.world _ refl refl refl quiet.world; kept = quiet.kept }
  row_quiet _ _ _ = quiet

  starved_quiet : (event : Event) (store : StoreAnswer) → IsQuiet (starved_step limits s event store).state
  starved_quiet (Take peer asked Ignored) store = quiet
  starved_quiet (Take peer asked (Turned xid refusal)) store = quiet
  starved_quiet (Take peer asked (Asks xid call)) store = row_quiet call (store_call limits s (Take peer asked (Asks xid call))) store
  starved_quiet (Local l line) store = quiet
  starved_quiet _ store = quiet

  step_quiet : (event : Event) (completion : Completion) (store : StoreAnswer) → IsQuiet (step limits s event completion store).state
  step_quiet event Applied store = applied_quiet event store
  step_quiet event Starved store = starved_quiet event store

run_quiet : (limits : Limits) (s : State) (done : List Done) → IsQuiet s → IsQuiet (state_after limits s done)
run_quiet limits s [] q = q
run_quiet limits s (d ∷ done) q = run_quiet limits (after limits s d).state done (step_quiet limits s q d.event d.completion d.store)

pub grace_calls_law : GraceCallsLaw
grace_calls_law limits name rules hosts done = (run_quiet limits (opening_state_with name rules hosts) done (record { world = λ g. record { waiters = refl; calls = refl }; kept = tt })).world
