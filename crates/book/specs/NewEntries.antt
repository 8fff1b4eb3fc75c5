-- An event is done, and an entry made of it.
use Rattle.std.specs.Prelude.{◌≡◌, ◌+◌, ◌-◌, ◌^◌, ◌<◌, [], ◌∷◌, ◌++◌, vec_len, vec_capacity}
use Rattle.definitions.specs.Step.{Starved}
use Rattle.call_plans.specs.Planned.{refusal_count}
use Rattle.book.specs.declared.entries.NewEntry.{NewEntry}
use Rattle.book.specs.declared.entries.Entries.{Entries}
use Rattle.book.specs.Given.{StepResult, result_under}
use Rattle.book.specs.Journal.{TakesMemory}
use Rattle.book.specs.Notes.{JournalEvent, Steps, given_in, view_of_operation}
use Rattle.book.specs.BookState.{BookState}

-- one step of the definitions, of which the new entry tells, and one refusal more where the store has refused
pub record IsDone (old : BookState) (event : JournalEvent) (step_result : StepResult) (new_entry : NewEntry) (new : BookState) : Type 0 where
  pub step : Steps old.state event step_result new.state
  pub tells : view_of_operation new_entry.operation ≡ event
  pub noted : result_under new_entry.status (given_in new_entry.operation) ≡ step_result
  pub counts : new.refusals ≡ refusal_count step_result.store old.refusals
  pub fed : step_result.completion ≡ Starved → TakesMemory event

-- there is a place and a number for one entry more
pub record HasPlace (e : Entries) : Type 0 where
  pub place : vec_len e.list < vec_capacity e.list
  pub number : e.newest < 2 ^ 64 - 1

-- one entry more, under the next number
pub record HasMore (old : Entries) (new_entry : NewEntry) (new : Entries) : Type 0 where
  pub list : new.list.items ≡ old.list.items ++ record { number = old.newest + 1; operation = new_entry.operation; status = new_entry.status } ∷ []
  pub room : vec_capacity new.list ≡ vec_capacity old.list
  pub newest : new.newest ≡ old.newest + 1
