-- One stream from a reader to a writer, as a run of the daemon.
use Rattle.std.specs.Prelude.{◌≡◌, ℕ, ◌+◌, ◌<◌, ◌≤◌, ◌⊎◌, Bool, true, false, List, [], ◌∷◌, ◌++◌, length, take, Option, Some, None, Result, Ok, Err}
use Rattle.std.specs.List.{All, flat_map}
use Rattle.std.specs.Option.{option_to_list}
use Rattle.std.specs.Io.KnownBytes.{Appends, Keeps, Consumes, IsAtEnd}
use Rattle.daemon_core.specs.declared.event.Event.{Event}
use Rattle.daemon_core.specs.declared.event.Event.TheVariants.{Connect, Piece, GraceOver, Restart}
use Rattle.daemon_core.specs.declared.outputs.Outputs.{Outputs}
use Rattle.daemon_core.specs.declared.event.EventRefusal.{EventRefusal}
use Rattle.kept_replies.specs.declared.key.TheConstants.Peer.{PIPE}
use Rattle.daemon_core.specs.DaemonState.{DaemonState, place_of, Waits, DaemonStep, Run, all_bytes_sent}
use Rattle.pipe_loops.specs.declared.fault.StreamFault.{StreamFault}
use Rattle.pipe_loops.specs.declared.fault.StreamFault.TheVariants.{Starved, RecordTooLong, StoreRefused, ReadFault, WriteFault}
use Rattle.pipe_loops.specs.declared.pipe.TheConstants.{PIECE}
use Rattle.pipe_loops.specs.FaultOf.{fault_of}
use Rattle.pipe_loops.specs.Answered.{AnswersEach, AnswersPart, taken_in, in_order, Breaks}

-- the event brings these bytes to the pipe's connection, which has the number 0
abbrev pub IsPiece : Event → List ℕ → Type 0
IsPiece (Piece number v) bytes = (number ≡ 0) × (v.items ≡ bytes)
IsPiece _ bytes = ⊥

-- a piece comes, and then so many records are whole and were not taken
pub record Hears (old : DaemonState) (bytes : List ℕ) (heard : Outputs) (whole : ℕ) (new : DaemonState) : Type 0 where
  pub piece : Event
  pub is : IsPiece piece bytes
  pub step : DaemonStep old piece heard new
  pub waits : Waits (place_of 0 new.links) new whole

-- a piece comes, and then each record that is whole is answered, in order, with the calls that are due behind it
pub record Turn (old : DaemonState) (bytes : List ℕ) (outs : List Outputs) (new : DaemonState) : Type 0 where
  pub heard : Outputs
  pub mid : DaemonState
  pub answers : List (List Outputs)
  pub hears : Hears old bytes heard (length answers) mid
  pub each : AnswersEach mid answers new
  pub all : outs ≡ heard ∷ in_order answers

-- or some of them are, the last of them perhaps in part
pub record SomeTurn (old : DaemonState) (bytes : List ℕ) (outs : List Outputs) (new : DaemonState) : Type 0 where
  pub heard : Outputs
  pub mid : DaemonState
  pub whole : ℕ
  pub hears : Hears old bytes heard whole mid
  pub answers : List (List Outputs)
  pub next : DaemonState
  pub each : AnswersEach mid answers next
  pub last : List Outputs
  pub part : AnswersPart next last new
  pub some : length answers + taken_in last ≤ whole
  pub all : outs ≡ heard ∷ (in_order answers ++ last)

-- what the piece was refused
abbrev pub met_by : Outputs → List EventRefusal
met_by out = option_to_list out.refusal

abbrev pub Turns : DaemonState → List (List ℕ) → List Outputs → List EventRefusal → DaemonState → Type 0
Turns old [] outs met new = (new ≡ old) × (outs ≡ []) × (met ≡ [])
Turns old (piece ∷ pieces) outs met new =
    (mid : DaemonState) × (first : List Outputs) × (rest : List Outputs) × (later : List EventRefusal) × (turn : Turn old piece first mid) × Turns mid pieces rest later new
    × (outs ≡ first ++ rest) × (met ≡ met_by turn.heard ++ later)

-- the server begins anew, its grace period is over, unless it is to go on, and the stream's connection begins
abbrev pub beginning : Bool → List Event
beginning true = Restart ∷ Connect 0 PIPE ∷ []
beginning false = Restart ∷ GraceOver ∷ Connect 0 PIPE ∷ []

-- what the events were refused
abbrev pub refusals : List Outputs → List EventRefusal
refusals outs = flat_map (λ (o : Outputs). option_to_list o.refusal) outs

-- it begins with these events, and then come these pieces
pub record PipeRun (events : List Event) (start : DaemonState) (pieces : List (List ℕ)) (outs : List Outputs) (met : List EventRefusal) (end : DaemonState) : Type 0 where
  pub begun : DaemonState
  pub firsts : List Outputs
  pub begins : Run start events firsts begun
  pub agreed : refusals firsts ≡ []
  pub rest : List Outputs
  pub turns : Turns begun pieces rest met end
  pub all : outs ≡ firsts ++ rest

abbrev pub concatenation : List (List ℕ) → List ℕ
concatenation pieces = flat_map (λ p. p) pieces

-- no more bytes than one read brings
abbrev pub IsShort : List ℕ → Type 0
IsShort piece = length piece ≤ PIECE

-- ---- the records that are whole after a piece

pub record AnswersAll (old new : DaemonState) (before after : Option (List ℕ)) : Type 0 where
  pub answers : List (List Outputs)
  pub waits : Waits (place_of 0 old.links) old (length answers)
  pub each : AnswersEach old answers new
  pub wrote : Appends before after (all_bytes_sent (in_order answers))

pub record AnswersSome (fault : StreamFault) (old new : DaemonState) (before after : Option (List ℕ)) : Type 0 where
  pub whole : ℕ
  pub waits : Waits (place_of 0 old.links) old whole
  pub answers : List (List Outputs)
  pub next : DaemonState
  pub each : AnswersEach old answers next
  pub last : List Outputs
  pub mid : DaemonState
  pub part : AnswersPart next last mid
  pub some : length answers + taken_in last ≤ whole
  pub breaks : Breaks fault mid new before after (in_order answers ++ last)

abbrev pub AnswersWaiting : Result (Unit {0}) StreamFault → DaemonState → DaemonState → Option (List ℕ) → Option (List ℕ) → Type 0
AnswersWaiting (Ok done) old new before after = AnswersAll old new before after
AnswersWaiting (Err fault) old new before after = AnswersSome fault old new before after

-- ---- a piece and the records after it

-- all that is sent was written
pub record WholeTurn (old new : DaemonState) (bytes : List ℕ) (before after : Option (List ℕ)) (met : List EventRefusal) : Type 0 where
  pub outs : List Outputs
  pub turn : Turn old bytes outs new
  pub wrote : Appends before after (all_bytes_sent outs)
  pub met_is : met_by turn.heard ≡ met

pub record BrokenTurn (fault : StreamFault) (old new : DaemonState) (bytes : List ℕ) (before after : Option (List ℕ)) : Type 0 where
  pub outs : List Outputs
  pub mid : DaemonState
  pub turn : SomeTurn old bytes outs mid
  pub breaks : Breaks fault mid new before after outs

-- where memory is wanting it was for the piece or for a sending
abbrev pub TurnEnds : Result (Unit {0}) StreamFault → DaemonState → DaemonState → List ℕ → Option (List ℕ) → Option (List ℕ) → Type 0
TurnEnds (Ok done) old new bytes before after = WholeTurn old new bytes before after []
TurnEnds (Err Starved) old new bytes before after = WholeTurn old new bytes before after (EventRefusal.Starved ∷ []) ⊎ BrokenTurn Starved old new bytes before after
TurnEnds (Err RecordTooLong) old new bytes before after = WholeTurn old new bytes before after (EventRefusal.RecordTooLong ∷ [])
TurnEnds (Err StoreRefused) old new bytes before after = ⊥
TurnEnds (Err WriteFault) old new bytes before after = BrokenTurn WriteFault old new bytes before after
TurnEnds (Err ReadFault) old new bytes before after = ⊥

-- ---- the beginning

-- an event that sends nothing and is not refused; or it is, and that is the fault
abbrev pub Passes : Result (Unit {0}) StreamFault → Event → DaemonState → DaemonState → Type 0
Passes (Ok done) event old new = (out : Outputs) × DaemonStep old event out new × (out.refusal ≡ None)
Passes (Err fault) event old new = (out : Outputs) × DaemonStep old event out new × (why : EventRefusal) × (out.refusal ≡ Some why) × (fault ≡ fault_of why)

pub record BeginsAll (events : List Event) (old new : DaemonState) : Type 0 where
  pub outs : List Outputs
  pub run : Run old events outs new
  pub agreed : refusals outs ≡ []

-- an event of the beginning is refused, and nothing comes after it
pub record BeginsSome (events : List Event) (why : EventRefusal) (old new : DaemonState) : Type 0 where
  pub count : ℕ
  pub outs : List Outputs
  pub run : Run old (take count events) outs new
  pub met_is : refusals outs ≡ why ∷ []

abbrev pub Begins : List Event → Result (Unit {0}) StreamFault → DaemonState → DaemonState → Type 0
Begins events (Ok done) old new = BeginsAll events old new
Begins events (Err fault) old new = (why : EventRefusal) × (fault ≡ fault_of why) × BeginsSome events why old new × (why ≡ EventRefusal.RecordTooLong → ⊥)

-- ---- the whole loop

-- what was read came as these pieces, at most so many, all that is sent for them was written, and nothing else
pub record EndsAt (events : List Event) (start : DaemonState) (most : ℕ) (unread left before after : Option (List ℕ)) (met : List EventRefusal) (daemon_state : DaemonState) : Type 0 where
  pub pieces : List (List ℕ)
  pub few : length pieces ≤ most
  pub short : All IsShort pieces
  pub outs : List Outputs
  pub run : PipeRun events start pieces outs met daemon_state
  pub read : Consumes unread left (concatenation pieces)
  pub wrote : Appends before after (all_bytes_sent outs)

abbrev pub WholePipe : List Event → DaemonState → ℕ → Option (List ℕ) → Option (List ℕ) → Option (List ℕ) → Option (List ℕ) → List EventRefusal → Type 0
WholePipe events start most unread left before after met = (daemon_state : DaemonState) × EndsAt events start most unread left before after met daemon_state

-- it ended within the turn of the last piece
pub record BrokenPipe (fault : StreamFault) (events : List Event) (start : DaemonState) (most : ℕ) (unread left before after : Option (List ℕ)) : Type 0 where
  pub pieces : List (List ℕ)
  pub few : length pieces < most
  pub short : All IsShort pieces
  pub outs : List Outputs
  pub mid : DaemonState
  pub run : PipeRun events start pieces outs [] mid
  pub last : List ℕ
  pub last_short : IsShort last
  pub more : List Outputs
  pub next : DaemonState
  pub turn : SomeTurn mid last more next
  pub end : DaemonState
  pub read : Consumes unread left (concatenation pieces ++ last)
  pub breaks : Breaks fault next end before after (outs ++ more)

-- nothing was read or written
pub record Untouched (unread left before after : Option (List ℕ)) : Type 0 where
  pub read : Keeps unread left
  pub wrote : Keeps before after

-- the beginning was refused
pub record Unbegun (events : List Event) (start : DaemonState) (why : EventRefusal) (unread left before after : Option (List ℕ)) : Type 0 where
  pub end : DaemonState
  pub some : BeginsSome events why start end
  pub untouched : Untouched unread left before after

-- memory is wanted for the daemon, by its beginning, for the place of the pieces before one is read, by a piece, or for the entry
-- of a sending. No contract can name that there was none for the daemon or for the place
abbrev pub PipeStarves : List Event → DaemonState → ℕ → Option (List ℕ) → Option (List ℕ) → Option (List ℕ) → Option (List ℕ) → Type 0
PipeStarves events start bound unread left before after =
    (Untouched unread left before after ⊎ Unbegun events start EventRefusal.Starved unread left before after)
    ⊎ ((WholePipe events start 0 unread left before after [] ⊎ WholePipe events start bound unread left before after (EventRefusal.Starved ∷ []))
    ⊎ BrokenPipe Starved events start bound unread left before after)

-- at most `bound` pieces are read, and the end is a piece of no bytes; `end` is the state then. A ReadFault comes after `bound`
-- reads, or where a read failed otherwise than by an interruption, which no contract can name: a read that fails leaves what is left
-- to read as it was
abbrev pub StreamEnds : List Event → DaemonState → ℕ → Result (Unit {0}) StreamFault → Option (List ℕ) → Option (List ℕ) → Option (List ℕ) → Option (List ℕ) → DaemonState → Type 0
StreamEnds events start bound (Ok done) unread left before after end =
    ((most : ℕ) × (most < bound) × EndsAt events start most unread left before after [] end) × IsAtEnd left
StreamEnds events start bound (Err ReadFault) unread left before after end = WholePipe events start bound unread left before after []
StreamEnds events start bound (Err RecordTooLong) unread left before after end =
    WholePipe events start bound unread left before after (EventRefusal.RecordTooLong ∷ [])
StreamEnds events start bound (Err Starved) unread left before after end = PipeStarves events start bound unread left before after
StreamEnds events start bound (Err StoreRefused) unread left before after end = Unbegun events start EventRefusal.StoreRefused unread left before after
StreamEnds events start bound (Err WriteFault) unread left before after end = BrokenPipe WriteFault events start bound unread left before after

-- whatever began it, a stream of which no piece came yet is served to its end
abbrev pub IsServed : ℕ → Result (Unit {0}) StreamFault → (left left' after after' : Option (List ℕ)) → DaemonState → DaemonState → Type 0
IsServed bound result left left' after after' old new =
    (events : List Event) (start : DaemonState) (unread before : Option (List ℕ)) → EndsAt events start 0 unread left before after [] old
    → StreamEnds events start bound result unread left' before after' new

abbrev pub PipeEnds : List Event → DaemonState → ℕ → Result (Unit {0}) StreamFault → Option (List ℕ) → Option (List ℕ) → Option (List ℕ) → Option (List ℕ) → Type 0
PipeEnds events start bound result unread left before after = (end : DaemonState) × StreamEnds events start bound result unread left before after end

-- what was read came as so many pieces at most, none longer than one read brings
abbrev pub ComesWithin : ℕ → Option (List ℕ) → Option (List ℕ) → Type 0
ComesWithin bound unread left = (pieces : List (List ℕ)) × (length pieces ≤ bound) × All IsShort pieces × Consumes unread left (concatenation pieces)

-- however a stream ends, it came as at most `bound` such pieces, so that no more than `bound` times `PIECE` bytes of it were taken
abbrev pub ReadsAreBounded : Type 0
ReadsAreBounded =
    (events : List Event) (start : DaemonState) (bound : ℕ) (result : Result (Unit {0}) StreamFault) (unread left before after : Option (List ℕ)) (end : DaemonState)
    → StreamEnds events start bound result unread left before after end → ComesWithin bound unread left
