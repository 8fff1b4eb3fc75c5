-- What a record is told.
use Rattle.std.specs.Prelude.{◌≡◌}
use Rattle.definitions.specs.Step.{Event}
use Rattle.call_plans.specs.Planned.{refusal_count}
use Rattle.book.specs.declared.step_result.Answered.{Answered}
use Rattle.book.specs.Notes.{IsStep}
use Rattle.book.specs.BookState.{BookState}

-- one step of the definitions, and one refusal more where the store has refused
pub record IsAnswered (event : Event) (old : BookState) (told : Answered) (new : BookState) : Type 0 where
  pub step : IsStep old.state event told.step_result new.state
  pub counts : new.refusals ≡ refusal_count told.step_result.store old.refusals
