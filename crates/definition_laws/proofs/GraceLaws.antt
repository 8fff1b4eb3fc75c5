-- In grace a table gains a mode only by a reclaim.
use Rattle.std.proofs.Common.{◌≡◌, ℕ, leb, [], length, refl, sym, subst, ◌∙◌, Option, Some, None}
use Rattle.definitions.specs.Settings.{Request}
use Rattle.definitions.specs.Bytes.{Bytes}
use Rattle.definitions.specs.Phases.{Phase, Grace}
use Rattle.definitions.specs.Hosts.{StoreCall, Begin, StoreAnswer, NotAsked, Yes, Refused, after_store}
use Rattle.definitions.specs.Nlm.{Locks, LockMsg}
use Rattle.definitions.specs.Outgoing.{Outgoing, next_due}
use Rattle.definitions.specs.Replies.{Call, Nlm, Ignored, Turned, Asks, AnswerReading}
use Rattle.definitions.specs.World.{World, Limits, settled_world, with_all_due, slots_free, restarted_world}
use Rattle.definitions.specs.Rulings.{Response, ruled_answer}
use Rattle.definitions.specs.Grants.{TableChange, TableStays, TableChanges, answer_rules}
use Rattle.definitions.specs.Lines.{line_answer}
use Rattle.definitions.specs.Answer.{ruling}
use Rattle.definitions.specs.Step.{Peer, KeptPair, State, Event, Take, Send, Answer, Silent, Local, GraceOver, Restart, Applied, Starved, Stepped, applied_step, starved_step, taken_step, look, sent_step, restart, settled_after, with_row_stored, store_call}
use Rattle.definitions.specs.Moves.{TableMove, Stays, Moves, IsReclaim, IsReclaimOf, GraceGrantsLaw}
use Rattle.definitions.proofs.WorldLaws.{due_keeps}
use Rattle.definitions.proofs.MoveLaws.{by_cond}
use Rattle.definition_laws.proofs.AnswerMoves.{restart_moves, call_moves, ruled_moves, answer_moves, told_moves, ResponseMoves, line_moves}
use Rattle.definition_laws.proofs.StepLaws.{settled_nobody}

module _ (limits : Limits) (s : State) (g : s.world.phase ≡ Grace) (none : s.world.waiters ≡ []) where
  -- the table moved, and nobody waits
  abbrev Moved : (Request → Type 0) → World → Type 0
  Moved R v = TableMove R Grace s.world.settings v.settings × (v.waiters ≡ [])

  moved : (R : Request → Type 0) (v : World) → Moves R s.world v → Moved R v
  moved R v m = (subst (λ (phase : Phase). TableMove R phase s.world.settings v.settings) g m.table, m.nobody g none)

  same : (R : Request → Type 0) (v : World) → v.settings ≡ s.world.settings → v.waiters ≡ s.world.waiters → Moved R v
  same R v e k = (subst (TableMove R Grace s.world.settings) (sym e) Stays, k ∙ none)

  at_rest : (R : Request → Type 0) (v : World) → Moved R v → Moved R (settled_world limits v)
  at_rest R v m = subst (Moved R) (sym (settled_nobody limits v m.1)) m

  taken_moved : (peer : Peer) (asked : Bytes) (xid : ℕ) (call : Call) (store : StoreAnswer) (o : Option KeptPair) → Moved (IsReclaimOf call) (taken_step limits s peer asked xid call store o).state.world
  taken_moved peer asked xid call store (Some k) =
      let kept = due_keeps s.world k.callbacks in
      by_cond (λ (t : Stepped). Moved (IsReclaimOf call) t.state.world) (leb (length k.callbacks) (slots_free limits s.world)) _ _
      (λ _. same (IsReclaimOf call) (with_all_due s.world k.callbacks) kept.settings kept.waiters)
      (λ _. same (IsReclaimOf call) s.world refl refl)
  taken_moved peer asked xid call store None =
      let v = (ruled_answer store (ruling limits s.world peer.local call)).world in
      at_rest (IsReclaimOf call) v (moved (IsReclaimOf call) v (ruled_moves (IsReclaimOf call) s.world store (ruling limits s.world peer.local call) (call_moves (IsReclaimOf call) limits s.world peer.local call (λ r h. h))))

  sent_moved : (R : Request → Type 0) (o : Option Outgoing) → Moved R (sent_step s o).state.world
  sent_moved R None = same R s.world refl refl
  sent_moved R (Some c) = same R s.world refl refl

  changed_moved : (R : Request → Type 0) (t : Response TableChange) → ResponseMoves R t.says s.world t.world → Moved R (settled_after limits t)
  changed_moved R t m = go t.says (moved R t.world (told_moves R t.says s.world t.world m))
    where
      go : (c : TableChange) → Moved R t.world → Moved R (elim c [ TableStays ↦ t.world | TableChanges ↦ settled_world limits t.world ])
      go TableStays u = u
      go TableChanges u = at_rest R t.world u

  answer_moved : (R : Request → Type 0) (reading : AnswerReading) (store : StoreAnswer) → Moved R (settled_after limits (ruled_answer store (answer_rules limits s.world reading)))
  answer_moved R reading NotAsked = changed_moved R (answer_rules limits s.world reading).refused (answer_moves R limits s.world reading).1
  answer_moved R reading Yes = changed_moved R (answer_rules limits s.world reading).agreed (answer_moves R limits s.world reading).0
  answer_moved R reading Refused = changed_moved R (answer_rules limits s.world reading).refused (answer_moves R limits s.world reading).1

  restart_moved : (R : Request → Type 0) (store : StoreAnswer) → Moved R (restart s store).state.world
  restart_moved R Yes = moved R (restarted_world s.world (after_store s.world.hosts Begin)) (restart_moves R s.world s.world (after_store s.world.hosts Begin))
  restart_moved R NotAsked = same R s.world refl refl
  restart_moved R Refused = same R s.world refl refl

  applied_moved : (event : Event) (store : StoreAnswer) → Moved (IsReclaim event) (applied_step limits s event store).state.world
  applied_moved (Take peer asked Ignored) store = same _ s.world refl refl
  applied_moved (Take peer asked (Turned xid refusal)) store = same _ s.world refl refl
  applied_moved (Take peer asked (Asks xid call)) store = taken_moved peer asked xid call store (look s peer asked)
  applied_moved Send store = sent_moved (IsReclaim Send) (next_due s.world.calls)
  applied_moved (Answer reading) store = answer_moved (IsReclaim (Answer reading)) reading store
  applied_moved (Silent number) store = same (IsReclaim (Silent number)) s.world refl refl
  applied_moved (Local l line) store =
      let v = (ruled_answer store (line_answer limits s.world l line)).world in
      let R = IsReclaim (Local l line) in
      at_rest R v (moved R v (line_moves R limits s.world l line store))
  applied_moved GraceOver store = same (IsReclaim GraceOver) s.world refl refl
  applied_moved Restart store = restart_moved (IsReclaim Restart) store

  row_moved : (R : Request → Type 0) (call : Call) (o : Option StoreCall) (store : StoreAnswer) → Moved R (with_row_stored s call o store).world
  row_moved R (Nlm version (Locks a)) (Some call) Yes = same R s.world refl refl
  row_moved R (Nlm version (LockMsg a)) (Some call) Yes = same R s.world refl refl
  row_moved R _ _ _ = same R s.world refl refl

  starved_moved : (R : Request → Type 0) (event : Event) (store : StoreAnswer) → Moved R (starved_step limits s event store).state.world
  starved_moved R (Take peer asked Ignored) store = same R s.world refl refl
  starved_moved R (Take peer asked (Turned xid refusal)) store = same R s.world refl refl
  starved_moved R (Take peer asked (Asks xid call)) store = row_moved R call (store_call limits s (Take peer asked (Asks xid call))) store
  starved_moved R (Local l line) store = same R s.world refl refl
  starved_moved R _ store = same R s.world refl refl

pub grace_grants_law : GraceGrantsLaw
grace_grants_law limits s event Applied store g none = applied_moved limits s g none event store
grace_grants_law limits s event Starved store g none = starved_moved limits s g none (IsReclaim event) event store
