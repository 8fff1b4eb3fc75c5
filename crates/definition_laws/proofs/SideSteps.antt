-- Each step, by what it changes beside the table: the own name, the shares and the server's own calls.
use Rattle.std.proofs.Common.{◌≡◌, ℕ, zero, suc, Bool, true, false, leb, List, [], ◌∷◌, ◌++◌, length, refl, sym, subst, ◌∙◌, Option, Some, None, ◌⊎◌, inl, inr}
use Rattle.std.proofs.lemmas.List.{append-nil}
use Rattle.definitions.specs.Bytes.{Bytes, first_that}
use Rattle.definitions.specs.Phases.{Normal}
use Rattle.definitions.specs.Hosts.{Hosts, StoreCall, Begin, StoreAnswer, NotAsked, Yes, Refused, after_store}
use Rattle.definitions.specs.Nlm.{Locks, LockMsg}
use Rattle.definitions.specs.Outgoing.{Callback, Outgoing, next_due, is_numbered, after_sending, after_silence, after_silence_at}
use Rattle.definitions.specs.Replies.{Call, Nlm, Ignored, Turned, Asks, AnswerReading}
use Rattle.definitions.specs.Shares.{Share}
use Rattle.definitions.specs.Waits.{Waiter}
use Rattle.definitions.specs.World.{World, Limits, first_ready, granted_world, settled_world, settled_within, with_all_due, with_calls, slots_free, first_number}
use Rattle.definitions.specs.Rulings.{Response, ruled_answer}
use Rattle.definitions.specs.Grants.{TableChange, TableStays, TableChanges, answer_rules}
use Rattle.definitions.specs.Lines.{line_answer}
use Rattle.definitions.specs.Answer.{ruling}
use Rattle.definitions.specs.Step.{Peer, KeptPair, State, Event, Take, Send, Answer, Silent, Local, GraceOver, Restart, Completion, Applied, Starved, Stepped, applied_step, starved_step, step, taken_step, look, sent_step, restart, settled_after, with_row_stored, store_call, is_restart}
use Rattle.definitions.proofs.WorldLaws.{due_keeps}
use Rattle.definition_laws.specs.Numbers.{Continues, GoesOn, BeginsAnew, is_beginning, NumbersLaw}
use Rattle.definition_laws.specs.Standing.{IsShareReclaim, IsShareReclaimOf, OwnNameLaw, RulesLaw}
use Rattle.definitions.proofs.MoveLaws.{by_cond}
use Rattle.definition_laws.proofs.CallLaws.{left_same, left_sending, AllOf, begins, one_due, all_due}
use Rattle.definition_laws.proofs.SideMoves.{ShareMove, SharesStay, GoesPlainlyOn, SideMoves, IsSame, same_sides, unmoved_sides, goes_left, goes_silent}
use Rattle.definition_laws.proofs.SideGrants.{answer_sides}
use Rattle.definition_laws.proofs.SideAnswers.{restart_sides, call_sides, ruled_sides, line_sides}

-- ---- any callbacks

abbrev Anything : Callback → Type 0
Anything callback = Unit {0}

all_any : (callbacks : List Callback) → AllOf Anything callbacks
all_any [] = tt
all_any (l ∷ callbacks) = (tt, all_any callbacks)

due_continues : (before : List Outgoing) (first : ℕ) (v : World) (callbacks : List Callback) → Continues before first v → Continues before first (with_all_due v callbacks)
due_continues before first v callbacks h = (all_due Anything before first v callbacks (all_any callbacks) (record { rest = h; each = all_any h.callbacks })).rest

-- ---- settle

settled_continues : (n : ℕ) (limits : Limits) (before : List Outgoing) (first : ℕ) (w : World) → Continues before first w → Continues before first (settled_within n limits w)
settled_continues zero limits before first w h = h
settled_continues (suc n) limits before first w h = go (first_ready limits w) (settled_continues n limits before first)
  where
    next : (x : Waiter) → Continues before first (granted_world limits w x)
    next x =
        let v : World = record w { settings = (granted_world limits w x).settings; waiters = (granted_world limits w x).waiters } in
        let k : Continues before first v = record { callbacks = h.callbacks; calls = h.calls; next = h.next } in
        (one_due Anything before first v x.callback tt (record { rest = k; each = all_any h.callbacks })).rest

    go : (o : Option Waiter) → ((v : World) → Continues before first v → Continues before first (settled_within n limits v)) → Continues before first (elim o [ None ↦ w | Some x ↦ settled_within n limits (granted_world limits w x) ])
    go None more = h
    go (Some x) more = more (granted_world limits w x) (next x)

pub record IsKept (w v : World) : Type 0 where
  pub name : v.own_name ≡ w.own_name
  pub rules : v.rules ≡ w.rules
  pub shares : v.shares ≡ w.shares
  pub hosts : v.hosts ≡ w.hosts
  pub phase : v.phase ≡ w.phase

settled_kept : (n : ℕ) (limits : Limits) (w : World) → IsKept w (settled_within n limits w)
settled_kept zero limits w = record { name = refl; rules = refl; shares = refl; hosts = refl; phase = refl }
settled_kept (suc n) limits w = go (first_ready limits w) (settled_kept n limits)
  where
    go : (o : Option Waiter) → ((v : World) → IsKept v (settled_within n limits v)) → IsKept w (elim o [ None ↦ w | Some x ↦ settled_within n limits (granted_world limits w x) ])
    go None more = record { name = refl; rules = refl; shares = refl; hosts = refl; phase = refl }
    go (Some x) more =
        let k = more (granted_world limits w x) in
        record { name = k.name; rules = k.rules; shares = k.shares; hosts = k.hosts; phase = k.phase }

pub settle_keeps : (limits : Limits) (w : World) → IsKept w (settled_world limits w)
settle_keeps limits w = settled_kept (length w.waiters) limits w

-- ---- a step

goes_still : (w v : World) → v.calls ≡ w.calls → v.next ≡ w.next → GoesOn w v
goes_still w v e n = record {
  left = w.calls;
  again = [];
  in_order = inl (left_same w.calls, refl);
  behind = subst (λ (first : ℕ). Continues (w.calls ++ []) first v) n (begins Anything (w.calls ++ []) v (e ∙ sym (append-nil w.calls))).rest;
}

pub record StepSides (Reclaimed : Share → Type 0) (begin : Bool) (w v : World) : Type 0 where
  pub name : v.own_name ≡ w.own_name
  pub rules : v.rules ≡ w.rules
  pub shares : ShareMove Reclaimed w.phase w.shares v.shares
  pub calls : GoesOn w v ⊎ ((begin ≡ true) × BeginsAnew v)

module _ (R : Share → Type 0) where
  plainly : (w v : World) → GoesPlainlyOn w v → GoesOn w v
  plainly w v g = record { left = g.left; again = g.again; in_order = g.in_order; behind = g.behind.rest }

  by_rules : (begin : Bool) (w v : World) → SideMoves R begin w v → StepSides R begin w v
  by_rules begin w v m = record {
    name = m.name;
    rules = m.rules;
    shares = m.shares;
    calls = elim m.calls [ inl g ↦ inl (plainly w v g) | inr k ↦ inr (k.0, k.1.behind.rest) ];
  }

  unmoved_step : (begin : Bool) (w : World) → StepSides R begin w w
  unmoved_step begin w = by_rules begin w w (unmoved_sides R begin w)

  same_step : (begin : Bool) (w v : World) → IsSame w v → StepSides R begin w v
  same_step begin w v h = by_rules begin w v (same_sides R begin w v h)

  -- calls go on, and nothing else
  going_step : (begin : Bool) (w v : World) → v.own_name ≡ w.own_name → v.rules ≡ w.rules → v.shares ≡ w.shares → GoesOn w v → StepSides R begin w v
  going_step begin w v e f k g = record { name = e; rules = f; shares = subst (ShareMove R w.phase w.shares) (sym k) SharesStay; calls = inl g }

  settled_step : (limits : Limits) (begin : Bool) (w v : World) → StepSides R begin w v → StepSides R begin w (settled_world limits v)
  settled_step limits begin w v m =
      let kept = settle_keeps limits v in
      record {
        name = kept.name ∙ m.name;
        rules = kept.rules ∙ m.rules;
        shares = subst (ShareMove R w.phase w.shares) (sym kept.shares) m.shares;
        calls = elim m.calls [
          | inl g ↦ inl (record { left = g.left; again = g.again; in_order = g.in_order; behind = settled_continues (length v.waiters) limits (g.left ++ g.again) w.next v g.behind })
          | inr k ↦ inr (k.0, subst (λ (hosts : Hosts). Continues [] (first_number hosts.own) (settled_world limits v)) (sym kept.hosts) (settled_continues (length v.waiters) limits [] (first_number v.hosts.own) v k.1))
        ];
      }

  repeat_step : (begin : Bool) (w : World) (callbacks : List Callback) → StepSides R begin w (with_all_due w callbacks)
  repeat_step begin w callbacks =
      let g = goes_still w w refl refl in
      going_step begin w (with_all_due w callbacks) (due_keeps w callbacks).own_name (due_keeps w callbacks).rules (due_keeps w callbacks).shares (record {
        left = g.left;
        again = g.again;
        in_order = g.in_order;
        behind = due_continues (g.left ++ g.again) w.next w callbacks g.behind;
      })

  silent_step : (begin : Bool) (w : World) (number : ℕ) → StepSides R begin w (with_calls w (after_silence number w.calls))
  silent_step begin w number = go (first_that (is_numbered number) w.calls) refl
    where
      go : (o : Option Outgoing) → first_that (is_numbered number) w.calls ≡ o → StepSides R begin w (with_calls w (after_silence_at o w.calls))
      go None e = same_step begin w (with_calls w w.calls) (record { name = refl; rules = refl; phase = refl; shares = refl; calls = left_same _; next = refl })
      go (Some c) e = let v = with_calls w (after_silence_at (Some c) w.calls) in going_step begin w v refl refl refl (plainly w v (goes_silent w number c e v refl refl refl))

module _ (limits : Limits) (s : State) where
  taken_sides : (peer : Peer) (asked : Bytes) (xid : ℕ) (call : Call) (store : StoreAnswer) (o : Option KeptPair) → StepSides (IsShareReclaimOf call) (is_restart peer call store) s.world (taken_step limits s peer asked xid call store o).state.world
  taken_sides peer asked xid call store (Some k) =
      let R = IsShareReclaimOf call in
      let begin = is_restart peer call store in
      by_cond (λ (t : Stepped). StepSides R begin s.world t.state.world) (leb (length k.callbacks) (slots_free limits s.world)) _ _
      (λ _. repeat_step R begin s.world k.callbacks)
      (λ _. unmoved_step R begin s.world)
  taken_sides peer asked xid call store None =
      let R = IsShareReclaimOf call in
      let begin = is_restart peer call store in
      let r = ruling limits s.world peer.local call in
      settled_step R limits begin s.world (ruled_answer store r).world
      (by_rules R begin s.world (ruled_answer store r).world (ruled_sides R s.world peer call store r (call_sides R limits s.world peer call (λ new h. h))))

  sent_sides : (R : Share → Type 0) (begin : Bool) (o : Option Outgoing) → StepSides R begin s.world (sent_step s o).state.world
  sent_sides R begin None = unmoved_step R begin s.world
  sent_sides R begin (Some c) =
      let v = with_calls s.world (after_sending s.world.calls) in
      going_step R begin s.world v refl refl refl (plainly R s.world v (goes_left s.world v (after_sending s.world.calls) (left_sending s.world.calls) refl refl refl))

  changed_sides : (R : Share → Type 0) (begin : Bool) (t : Response TableChange) → StepSides R begin s.world t.world → StepSides R begin s.world (settled_after limits t)
  changed_sides R begin t m = go t.says
    where
      go : (c : TableChange) → StepSides R begin s.world (elim c [ TableStays ↦ t.world | TableChanges ↦ settled_world limits t.world ])
      go TableStays = m
      go TableChanges = settled_step R limits begin s.world t.world m

  answered_sides : (R : Share → Type 0) (reading : AnswerReading) (store : StoreAnswer) → StepSides R false s.world (settled_after limits (ruled_answer store (answer_rules limits s.world reading)))
  answered_sides R reading NotAsked = changed_sides R false _ (by_rules R false s.world _ (answer_sides R limits s.world reading).1)
  answered_sides R reading Yes = changed_sides R false _ (by_rules R false s.world _ (answer_sides R limits s.world reading).0)
  answered_sides R reading Refused = changed_sides R false _ (by_rules R false s.world _ (answer_sides R limits s.world reading).1)

  begun_sides : (R : Share → Type 0) (store : StoreAnswer) → StepSides R (is_beginning Restart store) s.world (restart s store).state.world
  begun_sides R Yes = by_rules R true s.world _ (restart_sides R s.world s.world (after_store s.world.hosts Begin) refl refl)
  begun_sides R NotAsked = unmoved_step R _ s.world
  begun_sides R Refused = unmoved_step R _ s.world

  applied_sides : (event : Event) (store : StoreAnswer) → StepSides (IsShareReclaim event) (is_beginning event store) s.world (applied_step limits s event store).state.world
  applied_sides (Take peer asked Ignored) store = unmoved_step _ _ s.world
  applied_sides (Take peer asked (Turned xid refusal)) store = unmoved_step _ _ s.world
  applied_sides (Take peer asked (Asks xid call)) store = taken_sides peer asked xid call store (look s peer asked)
  applied_sides Send store = sent_sides _ _ (next_due s.world.calls)
  applied_sides (Answer reading) store = answered_sides _ reading store
  applied_sides (Silent number) store = silent_step _ _ s.world number
  applied_sides (Local l line) store =
      let R = IsShareReclaim (Local l line) in
      let v = (ruled_answer store (line_answer limits s.world l line)).world in
      settled_step R limits _ s.world v (by_rules R _ s.world v (line_sides R limits s.world l line store))
  applied_sides GraceOver store = going_step _ _ s.world _ refl refl refl (goes_still s.world (record s.world { phase = Normal }) refl refl)
  applied_sides Restart store = begun_sides _ store

  row_sides : (R : Share → Type 0) (begin : Bool) (call : Call) (o : Option StoreCall) (store : StoreAnswer) → StepSides R begin s.world (with_row_stored s call o store).world
  row_sides R begin (Nlm version (Locks a)) (Some call) Yes = same_step R begin s.world _ (record { name = refl; rules = refl; phase = refl; shares = refl; calls = left_same _; next = refl })
  row_sides R begin (Nlm version (LockMsg a)) (Some call) Yes = same_step R begin s.world _ (record { name = refl; rules = refl; phase = refl; shares = refl; calls = left_same _; next = refl })
  row_sides R begin _ _ _ = unmoved_step R begin s.world

  starved_sides : (event : Event) (store : StoreAnswer) → StepSides (IsShareReclaim event) (is_beginning event store) s.world (starved_step limits s event store).state.world
  starved_sides (Take peer asked Ignored) store = unmoved_step _ _ s.world
  starved_sides (Take peer asked (Turned xid refusal)) store = unmoved_step _ _ s.world
  starved_sides (Take peer asked (Asks xid call)) store = row_sides _ _ call (store_call limits s (Take peer asked (Asks xid call))) store
  starved_sides (Local l line) store = unmoved_step _ _ s.world
  starved_sides _ store = unmoved_step _ _ s.world

pub step_sides : (limits : Limits) (s : State) (event : Event) (completion : Completion) (store : StoreAnswer) → StepSides (IsShareReclaim event) (is_beginning event store) s.world (step limits s event completion store).state.world
step_sides limits s event Applied store = applied_sides limits s event store
step_sides limits s event Starved store = starved_sides limits s event store

pub numbers_law : NumbersLaw
numbers_law limits s event completion store = (step_sides limits s event completion store).calls

pub own_name_law : OwnNameLaw
own_name_law limits s event completion store = (step_sides limits s event completion store).name

pub rules_law : RulesLaw
rules_law limits s event completion store = (step_sides limits s event completion store).rules
