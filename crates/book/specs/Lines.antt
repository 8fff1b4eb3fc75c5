-- A line that by itself changes nothing.
use Rattle.std.specs.Prelude.{◌≡◌, ℕ, true}
use Rattle.definitions.specs.Hosts.{NotAsked}
use Rattle.definitions.specs.Lines.{line_answer}
use Rattle.definitions.specs.Replay.{fits}
use Rattle.definitions.specs.Replies.{Line, LineReply}
use Rattle.definitions.specs.Rulings.{stays}
use Rattle.definitions.specs.Step.{State, Local, Applied, Says}
use Rattle.definitions.specs.World.{the_limits}
use Rattle.call_plans.specs.Planned.{view_of_stored}
use Rattle.step_order.specs.declared.store.StoreAnswer.{StoreAnswer as CodedAnswer}
use Rattle.local_ops.specs.declared.answer.LocalAnswer.{LocalAnswer}
use Rattle.local_ops.specs.Answers.{view_of_local_answer}
use Rattle.book.specs.Given.{comes_to}
use Rattle.book.specs.Notes.{IsStep}

-- the line is told this, and the store isn't asked
abbrev pub IsAnsweredOnly : State → ℕ → Line → LineReply → Type 0
IsAnsweredOnly s l line reply =
    (line_answer the_limits s.world l line ≡ stays s.world reply)
    × (fits the_limits s (record { event = Local l line; completion = Applied; store = NotAsked }) ≡ true)

-- what a line that was done was told, and what the store answered, are its step
abbrev pub IsDone : State → ℕ → Line → State → LocalAnswer × CodedAnswer → Type 0
IsDone old l line new told = IsStep old (Local l line) (comes_to Applied (view_of_stored told.1) (Says (view_of_local_answer told.0))) new
