-- A hold is a step, and what stands over steps stands over holds.
use Rattle.std.proofs.Common.{◌≡◌, ℕ, Some, inl, inr, refl, sym, ap, subst, ◌∙◌}
use Rattle.definitions.specs.Step.{State, Event}
use Rattle.book.specs.Given.{StepResult}
use Rattle.book.specs.Notes.{JournalEvent, Steps}
use Rattle.book.specs.Repeats.{KeptIsGivenAgain}
use Rattle.workers.specs.Holds.{Held, Rests, Notes}
use Rattle.workers.specs.Laws.{state_of, HoldIsStep, HoldsGiveKeptReplies}

-- a segment that is closed leaves the state
rests_state : (old before : Held) → Rests old before → state_of before ≡ state_of old
rests_state old before (inl same) = ap state_of same
rests_state old before (inr turned) = ap state_of turned.1

-- the same step, from a state that is the same
from_same : (old again new : State) (event : JournalEvent) (step_result : StepResult) → again ≡ old → (s : Steps again event step_result new) → (t : Steps old event step_result new) × (t.said ≡ s.said)
from_same old again new event step_result e s =
    let P : State → Type 0 = λ x. (t : Steps x event step_result new) × (t.said ≡ s.said) in
    subst P e (s, refl)

pub hold_is_step : HoldIsStep
hold_is_step old new event step_result hold =
    from_same (state_of old) (state_of hold.before) (state_of new) event step_result (rests_state old hold.before hold.rests) hold.enters.steps

pub holds_give_kept_replies : HoldIsStep → KeptIsGivenAgain → HoldsGiveKeptReplies
holds_give_kept_replies is law old new event step_result hold peer asked xid call k said there =
    let s = is old new event step_result hold in
    law (state_of old) (state_of new) event step_result s.0 peer asked xid call k (s.1 ∙ said) there
