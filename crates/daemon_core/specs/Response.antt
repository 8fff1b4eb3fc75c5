-- What a client gets whose call is refused before its procedure's rules, and one whose reply is kept.
use Rattle.std.specs.Prelude.{◌≡◌, ℕ, ◌<◌, true, false, leb, length, Option, Some, None}
use Rattle.definitions.specs.Outgoing.{Callback}
use Rattle.definitions.specs.Nlm.{Version, Stat, NlmCall}
use Rattle.definitions.specs.Replies.{Call, Nlm, Outcome, Success, SystemErr, NoResult, Asks}
use Rattle.definitions.specs.Shown.{shown_stat}
use Rattle.definitions.specs.World.{LeavesRest, the_limits, slots_free, with_due, with_all_due, settled_world}
use Rattle.definitions.specs.Step.{Take, Applied, Starved, KeptPair, Replies, look, moved_to_front}
use Rattle.kept_replies.specs.Pairs.{view_of_peer}
use Rattle.book.specs.Refusals.{early_refusal, stat_in, early_message_refusal, refusal_callback}
use Rattle.daemon_core.specs.Link.{Link}
use Rattle.daemon_core.specs.Outcomes.{view_of_event_outcome}
use Rattle.daemon_core.specs.Outputs.{reply_to}
use Rattle.daemon_core.specs.declared.outputs.Outputs.{Outputs}
use Rattle.daemon_core.specs.DaemonState.{DaemonState, Answers}

-- the record that was taken asks for this call
abbrev pub IsCall : {place i : ℕ} {old new : DaemonState} {out : Outputs} → Answers place i old out new → ℕ → Call → Type 0
IsCall taken xid call = taken.step.said ≡ Take (view_of_peer taken.link.peer) taken.bytes (Asks xid call)

-- the pair that is kept of it, if one is
abbrev pub kept_of : {place i : ℕ} {old new : DaemonState} {out : Outputs} → Answers place i old out new → Option KeptPair
kept_of {old = old} taken = look old.state (view_of_peer taken.link.peer) taken.bytes

-- the client that asked gets this status
pub record TellsStat (link : Link) (xid : ℕ) (stat : Stat) (out : Outputs) : Type 0 where
  pub outcome : Outcome
  pub stat_is : stat_in outcome ≡ Some stat
  pub sent : out.sent ≡ reply_to link.number (Replies xid outcome)

-- a call that is done anew and has an early refusal is answered by it, as its version shows it: so in grace each that the phase
-- turns away is answered DENIED_GRACE_PERIOD
abbrev pub RefusalIsAnswered : Type 0
RefusalIsAnswered =
    (place i : ℕ) (old new : DaemonState) (out : Outputs) (taken : Answers place i old out new) (xid : ℕ) (version : Version) (call : NlmCall) (stat : Stat)
    → IsCall taken xid (Nlm version call) → kept_of taken ≡ None
    → view_of_event_outcome out.outcome ≡ Applied → early_refusal old.state.world call ≡ Some stat → TellsStat taken.link xid (shown_stat version stat) out

-- the client gets an empty reply, and the newest call that is due, before what waits is granted, tells the status to its host
pub record CallsBack (link : Link) (xid : ℕ) (version : Version) (call : NlmCall) (stat : Stat) (old : DaemonState) (out : Outputs) (new : DaemonState) : Type 0 where
  pub sent : out.sent ≡ reply_to link.number (Replies xid (Success NoResult))
  pub callback : Callback
  pub tells : refusal_callback version call stat ≡ Some callback
  pub world : new.state.world ≡ settled_world the_limits (with_due old.state.world callback)

-- a message form that is done anew while a place is free, and has an early refusal, is answered by a call of the server's own
abbrev pub MessageRefusalIsAnswered : Type 0
MessageRefusalIsAnswered =
    (place i : ℕ) (old new : DaemonState) (out : Outputs) (taken : Answers place i old out new) (xid : ℕ) (version : Version) (call : NlmCall) (stat : Stat)
    → IsCall taken xid (Nlm version call) → kept_of taken ≡ None → view_of_event_outcome out.outcome ≡ Applied → 0 < slots_free the_limits old.state.world
    → early_message_refusal old.state.world call ≡ Some stat → CallsBack taken.link xid version call stat old out new

-- the kept reply is sent again, the calls that went with it are due again, and the pair is now the newest
pub record IsRepeated (link : Link) (k : KeptPair) (old : DaemonState) (out : Outputs) (new : DaemonState) : Type 0 where
  pub sent : out.sent ≡ reply_to link.number (Replies k.xid k.outcome)
  pub world : new.state.world ≡ with_all_due old.state.world k.callbacks
  pub kept : new.state.kept ≡ moved_to_front k old.state.kept

-- SYSTEM_ERR is sent, and the state stays
pub record IsTurnedBack (link : Link) (xid : ℕ) (old : DaemonState) (out : Outputs) (new : DaemonState) : Type 0 where
  pub sent : out.sent ≡ reply_to link.number (Replies xid SystemErr)
  pub state : new.state ≡ old.state

-- a call whose reply is kept is not done again: locks, waiters, shares, phase and hosts stay. It gets its reply again, unless
-- memory or the places for its calls are wanting
pub record AnswersRepeat (link : Link) (xid : ℕ) (k : KeptPair) (old : DaemonState) (out : Outputs) (new : DaemonState) : Type 0 where
  pub unapplied : LeavesRest old.state.world new.state.world
  pub again : view_of_event_outcome out.outcome ≡ Applied → leb (length k.callbacks) (slots_free the_limits old.state.world) ≡ true → IsRepeated link k old out new
  pub full : view_of_event_outcome out.outcome ≡ Applied → leb (length k.callbacks) (slots_free the_limits old.state.world) ≡ false
      → IsTurnedBack link k.xid old out new
  pub starved : view_of_event_outcome out.outcome ≡ Starved → IsTurnedBack link xid old out new

abbrev pub KeptIsGivenAgain : Type 0
KeptIsGivenAgain =
    (place i : ℕ) (old new : DaemonState) (out : Outputs) (taken : Answers place i old out new) (xid : ℕ) (call : Call) (k : KeptPair)
    → IsCall taken xid call → kept_of taken ≡ Some k → AnswersRepeat taken.link xid k old out new
