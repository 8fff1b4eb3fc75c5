-- What a call gets whose reply is kept.
use Rattle.std.specs.Prelude.{◌≡◌, ℕ, true, false, leb, length, Some}
use Rattle.definitions.specs.Bytes.{Bytes}
use Rattle.definitions.specs.Replies.{Call, SystemErr, Asks}
use Rattle.definitions.specs.World.{LeavesRest, the_limits, slots_free, with_all_due}
use Rattle.definitions.specs.Step.{Peer, State, Take, Applied, Starved, Given, KeptPair, Replies, look, moved_to_front}
use Rattle.book.specs.Given.{StepResult}
use Rattle.book.specs.Notes.{JournalEvent, Steps}

-- the kept reply is given again, the calls that went with it are due again, and the pair is now the newest
pub record IsRepeated (k : KeptPair) (old : State) (given : Given) (new : State) : Type 0 where
  pub gives : given ≡ Replies k.xid k.outcome
  pub world : new.world ≡ with_all_due old.world k.callbacks
  pub kept : new.kept ≡ moved_to_front k old.kept

-- SYSTEM_ERR is given, and the state stays
pub record IsTurnedBack (xid : ℕ) (old : State) (given : Given) (new : State) : Type 0 where
  pub gives : given ≡ Replies xid SystemErr
  pub state : new ≡ old

-- a call whose reply is kept is not done again: locks, waiters, shares, phase and hosts stay. It gets its reply again, unless
-- memory or the places for its calls are wanting
pub record AnswersRepeat (xid : ℕ) (k : KeptPair) (old : State) (step_result : StepResult) (new : State) : Type 0 where
  pub unapplied : LeavesRest old.world new.world
  pub again : step_result.completion ≡ Applied → leb (length k.callbacks) (slots_free the_limits old.world) ≡ true → IsRepeated k old step_result.given new
  pub full : step_result.completion ≡ Applied → leb (length k.callbacks) (slots_free the_limits old.world) ≡ false → IsTurnedBack k.xid old step_result.given new
  pub starved : step_result.completion ≡ Starved → IsTurnedBack xid old step_result.given new

abbrev pub KeptIsGivenAgain : Type 0
KeptIsGivenAgain =
    (old new : State) (event : JournalEvent) (step_result : StepResult) (step : Steps old event step_result new)
    → (peer : Peer) (asked : Bytes) (xid : ℕ) (call : Call) (k : KeptPair)
    → step.said ≡ Take peer asked (Asks xid call) → look old peer asked ≡ Some k → AnswersRepeat xid k old step_result new
