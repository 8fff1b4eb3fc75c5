-- What is done once the store has answered.
use Rattle.std.specs.Prelude.{◌≡◌}
use Rattle.call_codec.specs.OutcomeValues.{view_of_outcome}
use Rattle.definitions.specs.Answer.{Answered}
use Rattle.lock_state.specs.Seen.{Seen}
use Rattle.call_plans.specs.declared.plans.PlannedAnswer.{PlannedAnswer}
use Rattle.call_plans.specs.declared.plans.SharedOutcome.{SharedOutcome}
use Rattle.call_plans.specs.declared.plans.Response.{Response}
use Rattle.call_plans.specs.Planned.{answer_in, told_in, IsForgottenFor}
use Rattle.call_plans.specs.Forgotten.{IsForgottenBy}

-- what was agreed on
pub record IsAgreed (agreed : PlannedAnswer) (old : Seen) (told : SharedOutcome) (new : Seen) : Type 0 where
  pub answer : ◌≡◌ {A = Answered} (record { outcome = view_of_outcome told.told.value; due = agreed.told.due.items; world = new.world }) (answer_in agreed old.world)
  pub refusals : new.refusals ≡ old.refusals
  pub forgotten : IsForgottenBy agreed.change old.world.calls new

-- what is told where the store has refused: nothing changes, and whoever was made known for the change alone is known no more
pub record IsTurnedDown (agreed : PlannedAnswer) (refused : Response) (old : Seen) (told : SharedOutcome) (new : Seen) : Type 0 where
  pub answer : ◌≡◌ {A = Answered} (record { outcome = view_of_outcome told.told.value; due = refused.due.items; world = new.world }) (told_in refused old.world)
  pub refusals : new.refusals ≡ old.refusals
  pub forgotten : IsForgottenFor agreed.change new.world new
