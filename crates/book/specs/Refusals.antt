-- What a call gets that is refused before its procedure's rules.
use Rattle.std.specs.Prelude.{◌≡◌, ℕ, ◌<◌, Option, Some, None}
use Rattle.definitions.specs.Bytes.{Bytes}
use Rattle.definitions.specs.Answer.{to_caller, lock_callback, cancel_callback, unlock_callback}
use Rattle.definitions.specs.Outgoing.{Callback, TestResult}
use Rattle.definitions.specs.Phases.{Testing, Locking, Sharing, Cancelling, Unlocking, Unsharing}
use Rattle.definitions.specs.Nlm.{Version, Stat, NlmCall, Test, Locks, Cancel, Unlock, TestMsg, LockMsg, CancelMsg, UnlockMsg, ShareCall, Unshare, NmLock}
use Rattle.definitions.specs.Ranges.{range_refusal, file_refusal}
use Rattle.definitions.specs.Replies.{Nlm, Outcome, Success, NoResult, ResResult, TestResResult, ShareResult, Asks}
use Rattle.definitions.specs.Shown.{shown_stat, free_test}
use Rattle.definitions.specs.World.{World, the_limits, slots_free, with_due, settled_world}
use Rattle.definitions.specs.Step.{Peer, State, Take, Applied, Given, Replies, look}
use Rattle.book.specs.Given.{StepResult}
use Rattle.book.specs.Notes.{JournalEvent, Steps}

-- what a call is refused for before its procedure's own rules: its file handle, its range, the phase
abbrev pub early_refusal : World → NlmCall → Option Stat
early_refusal w (Test a) = range_refusal w Testing a.alock
early_refusal w (Locks a) = range_refusal w (Locking a.reclaim) a.alock
early_refusal w (NmLock a) = range_refusal w (Locking a.reclaim) a.alock
early_refusal w (Cancel a) = range_refusal w Cancelling a.alock
early_refusal w (Unlock a) = range_refusal w Unlocking a.alock
early_refusal w (ShareCall a) = file_refusal w (Sharing a.reclaim) a.fh
early_refusal w (Unshare a) = file_refusal w Unsharing a.fh
early_refusal w _ = None

-- the status that a reply tells
abbrev pub stat_in : Outcome → Option Stat
stat_in (Success (ResResult r)) = Some r.stat
stat_in (Success (TestResResult version t)) = Some t.stat
stat_in (Success (ShareResult s)) = Some s.stat
stat_in _ = None

-- who asked gets this status
pub record TellsStat (xid : ℕ) (stat : Stat) (given : Given) : Type 0 where
  pub outcome : Outcome
  pub stat_is : stat_in outcome ≡ Some stat
  pub gives : given ≡ Replies xid outcome

-- a call that is done anew and has an early refusal is answered by it, as its version shows it: so in grace each that the phase
-- turns away is answered DENIED_GRACE_PERIOD
abbrev pub RefusalIsAnswered : Type 0
RefusalIsAnswered =
    (old new : State) (event : JournalEvent) (step_result : StepResult) (step : Steps old event step_result new)
    → (peer : Peer) (asked : Bytes) (xid : ℕ) (version : Version) (call : NlmCall) (stat : Stat)
    → step.said ≡ Take peer asked (Asks xid (Nlm version call)) → look old peer asked ≡ None → step_result.completion ≡ Applied
    → early_refusal old.world call ≡ Some stat → TellsStat xid (shown_stat version stat) step_result.given

-- what a message form is refused for before its procedure's own rules
abbrev pub early_message_refusal : World → NlmCall → Option Stat
early_message_refusal w (TestMsg a) = range_refusal w Testing a.alock
early_message_refusal w (LockMsg a) = range_refusal w (Locking a.reclaim) a.alock
early_message_refusal w (CancelMsg a) = range_refusal w Cancelling a.alock
early_message_refusal w (UnlockMsg a) = range_refusal w Unlocking a.alock
early_message_refusal w _ = None

-- the call that tells the caller's host of it: its _RES, with the status as the version shows it
abbrev pub refusal_callback : Version → NlmCall → Stat → Option Callback
refusal_callback version (TestMsg a) stat = Some (to_caller a.alock (TestResult version (free_test version a.cookie stat)))
refusal_callback version (LockMsg a) stat = Some (lock_callback version a stat)
refusal_callback version (CancelMsg a) stat = Some (cancel_callback version a stat)
refusal_callback version (UnlockMsg a) stat = Some (unlock_callback version a stat)
refusal_callback version _ stat = None

-- who asked gets an empty reply, and the newest call that is due, before what waits is granted, tells the status to its host
pub record CallsBack (xid : ℕ) (version : Version) (call : NlmCall) (stat : Stat) (old : State) (given : Given) (new : State) : Type 0 where
  pub gives : given ≡ Replies xid (Success NoResult)
  pub callback : Callback
  pub tells : refusal_callback version call stat ≡ Some callback
  pub world : new.world ≡ settled_world the_limits (with_due old.world callback)

-- a message form that is done anew while a place is free, and has an early refusal, is answered by a call of the server's own
abbrev pub MessageRefusalIsAnswered : Type 0
MessageRefusalIsAnswered =
    (old new : State) (event : JournalEvent) (step_result : StepResult) (step : Steps old event step_result new)
    → (peer : Peer) (asked : Bytes) (xid : ℕ) (version : Version) (call : NlmCall) (stat : Stat)
    → step.said ≡ Take peer asked (Asks xid (Nlm version call)) → look old peer asked ≡ None → step_result.completion ≡ Applied
    → 0 < slots_free the_limits old.world → early_message_refusal old.world call ≡ Some stat
    → CallsBack xid version call stat old step_result.given new
