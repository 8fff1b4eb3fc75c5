-- A record's reply, and the server's own calls that are sent behind it.
use Rattle.std.specs.Prelude.{◌≡◌, ℕ, Bool, true, false, List, [], ◌∷◌, flat_map, IsSome, Option, None, Result, Ok, Err}
use Rattle.std.specs.Io.KnownBytes.{Appends}
use Rattle.definitions.specs.Outgoing.{next_due}
use Rattle.daemon_core.specs.declared.event.Event.TheVariants.{Take}
use Rattle.daemon_core.specs.declared.event_outcome.EventOutcome.TheVariants.{NoSegment}
use Rattle.daemon_core.specs.declared.outputs.Outputs.{Outputs}
use Rattle.daemon_core.specs.Outputs.{bytes_sent}
use Rattle.daemon_core.specs.DaemonState.{DaemonState, DaemonStep, SendStep, all_bytes_sent}
use Rattle.pipe_loops.specs.declared.fault.StreamFault.{StreamFault}
use Rattle.pipe_loops.specs.declared.fault.StreamFault.TheVariants.{Starved, RecordTooLong, StoreRefused, ReadFault, WriteFault}
use Rattle.byte_io.specs.Written.{WroteFront}

-- no call of the server's own is due
abbrev pub NothingDue : DaemonState → Type 0
NothingDue daemon_state = next_due daemon_state.state.world.calls ≡ None

-- calls of the server's own are sent, each the one that is due first then
abbrev pub Sends : DaemonState → List Outputs → DaemonState → Type 0
Sends old [] new = new ≡ old
Sends old (call ∷ calls) new = (mid : DaemonState) × SendStep old call mid × IsSome call.sent × Sends mid calls new

-- the oldest record that was not taken is answered, and then every call that is due is sent
pub record AnswersRecord (old : DaemonState) (outs : List Outputs) (new : DaemonState) : Type 0 where
  pub reply : Outputs
  pub mid : DaemonState
  pub takes : DaemonStep old (Take 0 0) reply mid
  pub calls : List Outputs
  pub sends : Sends mid calls new
  pub all : outs ≡ reply ∷ calls
  pub none_left : NothingDue new

-- or only some of the calls, or not even the record
abbrev pub AnswersPart : DaemonState → List Outputs → DaemonState → Type 0
AnswersPart old [] new = new ≡ old
AnswersPart old (reply ∷ calls) new = (mid : DaemonState) × DaemonStep old (Take 0 0) reply mid × Sends mid calls new

-- how many records it took
abbrev pub taken_in : List Outputs → ℕ
taken_in [] = 0
taken_in (reply ∷ calls) = 1

-- so many records are answered, one after another
abbrev pub AnswersEach : DaemonState → List (List Outputs) → DaemonState → Type 0
AnswersEach old [] new = new ≡ old
AnswersEach old (outs ∷ answers) new = (mid : DaemonState) × AnswersRecord old outs mid × AnswersEach mid answers new

abbrev pub in_order : List (List Outputs) → List Outputs
in_order answers = flat_map (λ (outs : List Outputs). outs) answers

-- a call is due, and there is no segment for the entry of its sending: the one that stands is full
pub record SendStarves (old new : DaemonState) : Type 0 where
  pub out : Outputs
  pub step : SendStep old out new
  pub met : out.outcome ≡ NoSegment
  pub full : old.room.left ≡ 0

-- what ends it while this was sent: a write fails, and a front of what was sent is written; or there is no segment for the entry
-- of the next sending, and all is
abbrev pub Breaks : StreamFault → DaemonState → DaemonState → Option (List ℕ) → Option (List ℕ) → List Outputs → Type 0
Breaks WriteFault old new before after outs = (new ≡ old) × WroteFront before after (all_bytes_sent outs)
Breaks Starved old new before after outs = SendStarves old new × Appends before after (all_bytes_sent outs)
Breaks RecordTooLong old new before after outs = ⊥
Breaks StoreRefused old new before after outs = ⊥
Breaks ReadFault old new before after outs = ⊥

-- ---- the calls that are due

pub record SendsAll (old new : DaemonState) (before after : Option (List ℕ)) : Type 0 where
  pub calls : List Outputs
  pub sends : Sends old calls new
  pub none_left : NothingDue new
  pub wrote : Appends before after (all_bytes_sent calls)

pub record SendsSome (fault : StreamFault) (old new : DaemonState) (before after : Option (List ℕ)) : Type 0 where
  pub calls : List Outputs
  pub mid : DaemonState
  pub sends : Sends old calls mid
  pub breaks : Breaks fault mid new before after calls

-- one call, where one is due
abbrev pub SendsNext : Result Bool StreamFault → DaemonState → DaemonState → Option (List ℕ) → Option (List ℕ) → Type 0
SendsNext (Ok true) old new before after = (call : Outputs) × SendStep old call new × IsSome call.sent × Appends before after (bytes_sent call.sent)
SendsNext (Ok false) old new before after = (new ≡ old) × NothingDue new × (after ≡ before)
SendsNext (Err fault) old new before after = SendsSome fault old new before after

abbrev pub SendsDue : Result (Unit {0}) StreamFault → DaemonState → DaemonState → Option (List ℕ) → Option (List ℕ) → Type 0
SendsDue (Ok done) old new before after = SendsAll old new before after
SendsDue (Err fault) old new before after = SendsSome fault old new before after

-- ---- a record and the calls behind it

pub record AnswersWhole (old new : DaemonState) (before after : Option (List ℕ)) : Type 0 where
  pub outs : List Outputs
  pub answers : AnswersRecord old outs new
  pub wrote : Appends before after (all_bytes_sent outs)

pub record AnswersBegun (fault : StreamFault) (old new : DaemonState) (before after : Option (List ℕ)) : Type 0 where
  pub outs : List Outputs
  pub mid : DaemonState
  pub answers : AnswersPart old outs mid
  pub begun : taken_in outs ≡ 1
  pub breaks : Breaks fault mid new before after outs

abbrev pub AnswersNext : Result (Unit {0}) StreamFault → DaemonState → DaemonState → Option (List ℕ) → Option (List ℕ) → Type 0
AnswersNext (Ok done) old new before after = AnswersWhole old new before after
AnswersNext (Err fault) old new before after = AnswersBegun fault old new before after
