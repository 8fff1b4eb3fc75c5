-- A repeat is answered and not applied.
use Rattle.std.proofs.Common.{◌≡◌, ℕ, leb, [], length, Option, Some, None}
use Rattle.std.proofs.lemmas.Option.{none-some}
use Rattle.definitions.specs.Bytes.{Bytes}
use Rattle.definitions.specs.Hosts.{StoreAnswer}
use Rattle.definitions.specs.Nlm.{Locks, LockMsg}
use Rattle.definitions.specs.Replies.{Call, Nlm}
use Rattle.definitions.specs.World.{Limits, LeavesRest, slots_free}
use Rattle.definitions.specs.Step.{Peer, KeptPair, State, Applied, Starved, Stepped, taken_step, look, asked_unless_kept, with_row_stored, RepeatLaw}
use Rattle.definitions.proofs.MoveLaws.{by_cond}
use Rattle.definitions.proofs.WorldLaws.{due_keeps}

not_stored : (s : State) (call : Call) (store : StoreAnswer) → LeavesRest s.world (with_row_stored s call None store).world
not_stored s (Nlm version (Locks a)) store = due_keeps s.world []
not_stored s (Nlm version (LockMsg a)) store = due_keeps s.world []
not_stored s _ store = due_keeps s.world []

module _ (limits : Limits) (s : State) (peer : Peer) (asked : Bytes) (xid : ℕ) (call : Call) (store : StoreAnswer) (k : KeptPair) where
  taken_unapplied : (o : Option KeptPair) → o ≡ Some k → LeavesRest s.world (taken_step limits s peer asked xid call store o).state.world
  taken_unapplied (Some j) e =
      by_cond (λ (t : Stepped). LeavesRest s.world t.state.world) (leb (length j.callbacks) (slots_free limits s.world)) _ _
      (λ _. due_keeps s.world j.callbacks)
      (λ _. due_keeps s.world [])
  taken_unapplied None e = absurd (none-some k e)

  starved_unapplied : (o : Option KeptPair) → o ≡ Some k → LeavesRest s.world (with_row_stored s call (asked_unless_kept limits s peer call o) store).world
  starved_unapplied (Some j) e = not_stored s call store
  starved_unapplied None e = absurd (none-some k e)

pub repeat_law : RepeatLaw
repeat_law limits s peer asked xid call Applied store k e = taken_unapplied limits s peer asked xid call store k (look s peer asked) e
repeat_law limits s peer asked xid call Starved store k e = starved_unapplied limits s peer asked xid call store k (look s peer asked) e
