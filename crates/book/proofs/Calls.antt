-- What a call comes to whose reply isn't kept.
use Rattle.std.proofs.Common.{◌≡◌, ℕ, Bool, true, cond, List, [], Option, Some, None, refl, sym, ap, ◌∙◌, true≢false}
use Rattle.definitions.specs.Bytes.{Bytes}
use Rattle.definitions.specs.Nlm.{Locks, LockMsg}
use Rattle.definitions.specs.Hosts.{StoreCall, StoreAnswer, NotAsked, Yes, Refused, after_store}
use Rattle.definitions.specs.Replies.{Call, Nlm, Nsm, Asks, SystemErr}
use Rattle.definitions.specs.World.{the_limits, settled_world, with_hosts}
use Rattle.definitions.specs.Rulings.{Ruling, ruled_answer}
use Rattle.definitions.specs.Answer.{Answered, ruling}
use Rattle.definitions.specs.Step.{Peer, KeptPair, State, Take, Applied, Starved, Replies, with_world, look, store_call, asked_unless_kept, with_row_stored, is_kept_kind, is_restart, kept_after}
use Rattle.definitions.specs.Replay.{fits, may_leave_row}
use Rattle.definition_laws.proofs.AskingLaws.{not_asked, refused_is_no_yes, starved_law}
use Rattle.call_plans.specs.declared.plans.Plan.{Plan}
use Rattle.call_plans.specs.declared.plans.Plan.TheVariants as plan
use Rattle.lock_service.specs.MayAsk.{may_ask}
use Rattle.call_plans.specs.Planned.{ruling_of_plan, world_after_store, view_of_asked, IsPlan, IsAnswerTo, IsWithin, AsksOnlyIf}
use Rattle.book.specs.Given.{comes_to}
use Rattle.book.specs.Notes.{IsStep}

row_stored : (s : State) (call : Call) (store : StoreCall) → may_leave_row call ≡ true → with_row_stored s call (Some store) Yes ≡ with_world s (with_hosts s.world (after_store s.world.hosts store))
row_stored s (Nlm version (Locks a)) store h = refl
row_stored s (Nlm version (LockMsg a)) store h = refl
row_stored s _ store h = absurd (true≢false (sym h))

-- nobody was asked yet
pub starved_early : (s : State) (peer : Peer) (bytes : Bytes) (xid : ℕ) (call : Call) → IsStep s (Take peer bytes (Asks xid call)) (comes_to Starved NotAsked (Replies xid SystemErr)) s
starved_early s peer bytes xid call = record {
  gives = refl;
  leaves = starved_law.unless_agreed the_limits s (Take peer bytes (Asks xid call)) NotAsked not_asked;
  fits = refl;
}

-- what is kept is fixed by the outcome and the calls that became due
pub same_kept : (peer : Peer) (bytes : Bytes) (xid : ℕ) (call : Call) (a b : Answered) (kept : List KeptPair) → a.outcome ≡ b.outcome → a.due ≡ b.due
    → kept_after the_limits peer bytes xid call a kept ≡ kept_after the_limits peer bytes xid call b kept
same_kept peer bytes xid call a b kept outcome due = rw (outcome, due) refl

-- the store may be asked for a call that is kept only where that stores a row
pub kept_asks : (call : Call) → may_ask call ≡ true → is_kept_kind call ≡ true → may_leave_row call ≡ true
kept_asks (Nlm version call) asks kept = asks
kept_asks (Nsm call) asks kept = absurd (true≢false (sym kept))

module _ (s : State) (peer : Peer) (bytes : Bytes) (xid : ℕ) (call : Call) (none : look s peer bytes ≡ None) where
  asks_as : (p : Plan) → IsPlan (ruling the_limits s.world peer.local call) s.world p → store_call the_limits s (Take peer bytes (Asks xid call)) ≡ (ruling_of_plan p s.world).asks
  asks_as p is = ap (λ (o : Option KeptPair). asked_unless_kept the_limits s peer call o) none ∙ ap (λ (r : Ruling Answered). r.asks) (sym is.ruled)

  -- the store had answered, and then memory was wanting to keep the reply
  pub starved_late : (p : Plan) (store : StoreAnswer) (allowed : Bool) → IsPlan (ruling the_limits s.world peer.local call) s.world p → AsksOnlyIf allowed p
      → (allowed ≡ true → is_kept_kind call ≡ true → may_leave_row call ≡ true) → is_kept_kind call ≡ true → IsAnswerTo p store → IsWithin p store s.world
      → IsStep s (Take peer bytes (Asks xid call)) (comes_to Starved store (Replies xid SystemErr)) (with_world s (world_after_store p store s.world))
  starved_late (plan.Decided a) store allowed is only row kept answer within = rw answer (starved_early s peer bytes xid call)
  starved_late (plan.AfterStore q agreed refused) NotAsked allowed is only row kept answer within = absurd (answer refl)
  starved_late (plan.AfterStore q agreed refused) Refused allowed is only row kept answer within = record {
    gives = refl;
    leaves = starved_law.unless_agreed the_limits s (Take peer bytes (Asks xid call)) Refused refused_is_no_yes;
    fits = rw (asks_as (plan.AfterStore q agreed refused) is) refl;
  }
  starved_late (plan.AfterStore q agreed refused) Yes allowed is only row kept answer within = record {
    gives = refl;
    leaves = rw (asks_as (plan.AfterStore q agreed refused) is) (row_stored s call (view_of_asked q) (row only kept));
    fits = rw (row only kept, asks_as (plan.AfterStore q agreed refused) is, within refl) refl;
  }

  answer_fits : (p : Plan) (store : StoreAnswer) → IsPlan (ruling the_limits s.world peer.local call) s.world p → IsAnswerTo p store → IsWithin p store s.world → fits the_limits s (record { event = Take peer bytes (Asks xid call); completion = Applied; store = store }) ≡ true
  answer_fits (plan.Decided a) store is answer within = rw (answer, asks_as (plan.Decided a) is) refl
  answer_fits (plan.AfterStore q agreed refused) NotAsked is answer within = absurd (answer refl)
  answer_fits (plan.AfterStore q agreed refused) Yes is answer within = rw (asks_as (plan.AfterStore q agreed refused) is, within refl) refl
  answer_fits (plan.AfterStore q agreed refused) Refused is answer within = rw (asks_as (plan.AfterStore q agreed refused) is) refl

  -- it was done
  pub done : (p : Plan) (store : StoreAnswer) (a : Answered) → IsPlan (ruling the_limits s.world peer.local call) s.world p → a ≡ ruled_answer store (ruling_of_plan p s.world) → IsAnswerTo p store → IsWithin p store s.world → IsStep s (Take peer bytes (Asks xid call)) (comes_to Applied store (Replies xid a.outcome)) (record { world = settled_world the_limits a.world; kept = cond (is_restart peer call store) [] (kept_after the_limits peer bytes xid call a s.kept) })
  done p store a is ruling answer within = record {
    gives = rw (none, ← is.ruled, ← ruling) refl;
    leaves = rw (none, ← is.ruled, ← ruling) refl;
    fits = answer_fits p store is answer within;
  }
