-- What a sending does, and the calls that are due after it.
use Rattle.std.proofs.Common.{◌≡◌, ℕ, suc, ◌<◌, ◌⊎◌, inl, inr, Bool, true, false, cond, List, [], ◌∷◌, Option, Some, None, refl, sym, ◌∙◌, ap, subst, arith}
use Rattle.std.specs.Prelude.{IsSome}
use Rattle.definitions.specs.Hosts.{StoreAnswer, NotAsked, Yes, Refused}
use Rattle.definitions.specs.Outgoing.{Outgoing, next_due, after_sending, ends_when_sent, once_more}
use Rattle.definitions.specs.Step.{State, Event, Send, Completion, Applied, Starved, Given, Nothing, Sends as Gives, IsStarved, sent_step}
use Rattle.book.specs.Given.{comes_to}
use Rattle.book.specs.Notes.{IsStep}
use Rattle.call_plans.specs.Planned.{view_of_stored}
use Rattle.daemon_core.specs.Outcomes.{view_of_event_outcome}
use Rattle.daemon_core.specs.declared.outputs.Outputs.{Outputs}
use Rattle.daemon_core.specs.Sending.{Sending as Sent}
use Rattle.daemon_core.specs.Outputs.{sent_on}
use Rattle.daemon_core.specs.DaemonState.{DaemonState, SendStep}

-- how many calls are due
abbrev pub due_count : List Outgoing → ℕ
due_count [] = 0
due_count (c ∷ calls) = cond c.is_due (suc (due_count calls)) (due_count calls)

fewer : (calls : List Outgoing) (c : Outgoing) → next_due calls ≡ Some c → suc (due_count (after_sending calls)) ≡ due_count calls
fewer [] c e = cc
fewer (d ∷ calls) c e = go d.is_due refl (ends_when_sent d.callback.message) e (fewer calls c)
  where
    go : (b : Bool) → d.is_due ≡ b → (ends : Bool) → cond b (Some d) (next_due calls) ≡ Some c → (next_due calls ≡ Some c → suc (due_count (after_sending calls)) ≡ due_count calls)
        → suc (due_count (cond b (cond ends calls (once_more d ∷ calls)) (d ∷ after_sending calls))) ≡ cond b (suc (due_count calls)) (due_count calls)
    go true is true h more = refl
    go true is false h more = refl
    go false is ends h more = rw is (more h)

-- ---- a step of the definitions

-- it starved; or nothing is due; or the call that is due first was sent
abbrev SendEnds : State → Completion → StoreAnswer → Given → State → Type 0
SendEnds s completion store given new =
    ((given ≡ IsStarved) × (completion ≡ Starved))
    ⊎ (((given ≡ Nothing) × (next_due s.world.calls ≡ None) × (new ≡ s) × (store ≡ NotAsked))
    ⊎ ((c : Outgoing) × (given ≡ Gives c.number c.callback) × (suc (due_count new.world.calls) ≡ due_count s.world.calls)))

not_asked : (s : State) (store : StoreAnswer) (given : Given) (new : State) → IsStep s Send (comes_to Applied store given) new → store ≡ NotAsked
not_asked s NotAsked given new h = refl
not_asked s Yes given new h = let f = h.fits in cc
not_asked s Refused given new h = let f = h.fits in cc

send_ends : (s : State) (completion : Completion) (store : StoreAnswer) (given : Given) (new : State) → IsStep s Send (comes_to completion store given) new → SendEnds s completion store given new
send_ends s Starved store given new h = inl (sym h.gives, refl)
send_ends s Applied store given new h = inr (go (next_due s.world.calls) refl h.gives h.leaves)
  where
    go : (o : Option Outgoing) → next_due s.world.calls ≡ o → (sent_step s o).given ≡ given → (sent_step s o).state ≡ new
        → ((given ≡ Nothing) × (next_due s.world.calls ≡ None) × (new ≡ s) × (store ≡ NotAsked))
        ⊎ ((c : Outgoing) × (given ≡ Gives c.number c.callback) × (suc (due_count new.world.calls) ≡ due_count s.world.calls))
    go None n gives leaves = inl (sym gives, n, sym leaves, not_asked s store given new h)
    go (Some c) n gives leaves =
        let left : new.world.calls ≡ after_sending s.world.calls = ap (λ (t : State). t.world.calls) (sym leaves) in
        inr (c, sym gives, ap (λ (cs : List Outgoing). suc (due_count cs)) left ∙ fewer s.world.calls c n)

-- ---- a step of the daemon

module _ (old new : DaemonState) (out : Outputs) (step : SendStep old out new) where
  ended_here : SendEnds old.state (view_of_event_outcome out.outcome) (view_of_stored out.store) step.given new.state
  ended_here =
      let P : Event → Type 0 = λ e. IsStep old.state e (comes_to (view_of_event_outcome out.outcome) (view_of_stored out.store) step.given) new.state in
      send_ends old.state (view_of_event_outcome out.outcome) (view_of_stored out.store) step.given new.state (subst P step.step.reads step.step.step)

  sent_is : out.sent ≡ sent_on step.given
  sent_is = ap (λ (o : Outputs). o.sent) step.outputs

  -- a call that is sent is no longer due
  pub lowers : IsSome out.sent → due_count new.state.world.calls < due_count old.state.world.calls
  lowers some = go ended_here
    where
      nothing_sent : out.sent ≡ None → ⊥
      nothing_sent e = let P : Option Sent → Type 0 = λ o. IsSome o in let n = subst P e some in cc

      go : SendEnds old.state (view_of_event_outcome out.outcome) (view_of_stored out.store) step.given new.state → due_count new.state.world.calls < due_count old.state.world.calls
      go (inl h) = absurd (nothing_sent (sent_is ∙ ap sent_on h.0))
      go (inr (inl h)) = absurd (nothing_sent (sent_is ∙ ap sent_on h.0))
      go (inr (inr h)) = let n = h.2 in omega (arith, n)
