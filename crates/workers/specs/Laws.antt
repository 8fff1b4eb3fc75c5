-- What stands over each hold of the book's lock.
use Rattle.std.specs.Prelude.{◌≡◌, ℕ, Some}
use Rattle.definitions.specs.Bytes.{Bytes}
use Rattle.definitions.specs.Replies.{Call, Asks}
use Rattle.definitions.specs.Step.{Peer, State, Take, KeptPair, look}
use Rattle.book.specs.Given.{StepResult}
use Rattle.book.specs.Notes.{JournalEvent, Steps}
use Rattle.book.specs.Repeats.{AnswersRepeat}
use Rattle.workers.specs.Holds.{Held, Notes}

-- the state that a hold sees
abbrev pub state_of : Held → State
state_of held = held.book.journal.end

-- a hold that made an entry made one step, by the event that the entry reads, so that what `book` says of steps stands over holds
abbrev pub HoldIsStep : Type 0
HoldIsStep =
    (old new : Held) (event : JournalEvent) (step_result : StepResult) (hold : Notes old event step_result new)
    → (step : Steps (state_of old) event step_result (state_of new)) × (step.said ≡ hold.enters.steps.said)

-- a call whose reply is kept gets it again, and is not done again
abbrev pub HoldsGiveKeptReplies : Type 0
HoldsGiveKeptReplies =
    (old new : Held) (event : JournalEvent) (step_result : StepResult) (hold : Notes old event step_result new)
    → (peer : Peer) (asked : Bytes) (xid : ℕ) (call : Call) (k : KeptPair)
    → hold.enters.steps.said ≡ Take peer asked (Asks xid call) → look (state_of old) peer asked ≡ Some k
    → AnswersRepeat xid k (state_of old) step_result (state_of new)
