-- What an entry of the journal notes: the event with the bytes of its record, and what it came to.
use Rattle.std.specs.Prelude.{◌≡◌, ℕ, Bool, true, false}
use Rattle.definitions.specs.Bytes.{Bytes}
use Rattle.definitions.specs.Hosts.{StoreAnswer}
use Rattle.definitions.specs.Replies.{Reading, AnswerReading, Line}
use Rattle.definitions.specs.World.{the_limits}
use Rattle.definitions.specs.Step.{Peer, Event, Take, Send, Answer, Local, Silent, GraceOver, Restart, Completion, Given, Says, Sends, State}
use Rattle.definitions.specs.Replay.{after, fits}
use Rattle.kept_replies.specs.Pairs.{view_of_peer}
use Rattle.book.specs.declared.event.BookEvent.{BookEvent}
use Rattle.book.specs.declared.event.BookEvent.TheVariants as event
use Rattle.book.specs.declared.entry.Operation.{Operation}
use Rattle.book.specs.declared.entry.Operation.TheVariants as operation
use Rattle.book.specs.declared.entry.Entry.{Entry}
use Rattle.local_ops.specs.Answers.{view_of_local_answer}
use Rattle.book.specs.Given.{StepResult, comes_to, result_under, view_of_reply}
use Rattle.call_codec.specs.Answers.{IsAnswerReading}
use Rattle.call_codec.specs.Readings.{IsReading}
use Rattle.local_ops.specs.Grammar.{Reads as LineReads}

pub data JournalEvent : Type 0 where
  Takes : Peer → Bytes → JournalEvent
  SendsNext : JournalEvent
  HearsAnswer : Bytes → JournalEvent
  AsksLine : ℕ → Bytes → JournalEvent
  FallsSilent : ℕ → JournalEvent
  GraceEnds : JournalEvent
  BeginsAnew : JournalEvent

-- a record was taken
abbrev pub is_take : JournalEvent → Bool
is_take (Takes peer asked) = true
is_take SendsNext = false
is_take (HearsAnswer bytes) = false
is_take (AsksLine l line) = false
is_take (FallsSilent number) = false
is_take GraceEnds = false
is_take BeginsAnew = false

pub record Note : Type 0 where
  pub number : ℕ
  pub event : JournalEvent
  pub step_result : StepResult

abbrev pub view_of_event : BookEvent → JournalEvent
view_of_event (event.Take peer bytes) = Takes (view_of_peer peer) bytes
view_of_event (event.Answer bytes) = HearsAnswer bytes.items
view_of_event (event.Local l line) = AsksLine l line.items
view_of_event (event.Silent number) = FallsSilent number
view_of_event event.GraceOver = GraceEnds
view_of_event event.Restart = BeginsAnew

abbrev pub view_of_operation : Operation → JournalEvent
view_of_operation (operation.Event event reply) = view_of_event event
view_of_operation (operation.Line l line answer) = AsksLine l line.items
view_of_operation (operation.Sent number callback) = SendsNext

abbrev pub given_in : Operation → Given
given_in (operation.Event event reply) = view_of_reply reply
given_in (operation.Line l line answer) = Says (view_of_local_answer answer.value)
given_in (operation.Sent number callback) = Sends number callback.value

abbrev pub view_of_entry : Entry → Note
view_of_entry e = record { number = e.number; event = view_of_operation e.operation; step_result = result_under e.status (given_in e.operation) }

-- the event of the definitions, whose record, answer or line has its reading
abbrev pub Reads : JournalEvent → Event → Type 0
Reads (Takes peer asked) e = (reading : Reading) × IsReading asked reading × (e ≡ Take peer asked reading)
Reads SendsNext e = e ≡ Send
Reads (HearsAnswer bytes) e = (reading : AnswerReading) × IsAnswerReading bytes reading × (e ≡ Answer reading)
Reads (AsksLine l bytes) e = (line : Line) × LineReads bytes line × (e ≡ Local l line)
Reads (FallsSilent number) e = e ≡ Silent number
Reads GraceEnds e = e ≡ GraceOver
Reads BeginsAnew e = e ≡ Restart

-- one step of the definitions, by an event that is read
pub record IsStep (old : State) (said : Event) (step_result : StepResult) (new : State) : Type 0 where
  pub gives : (after the_limits old (record { event = said; completion = step_result.completion; store = step_result.store })).given ≡ step_result.given
  pub leaves : (after the_limits old (record { event = said; completion = step_result.completion; store = step_result.store })).state ≡ new
  pub fits : fits the_limits old (record { event = said; completion = step_result.completion; store = step_result.store }) ≡ true

pub record Steps (old : State) (event : JournalEvent) (step_result : StepResult) (new : State) : Type 0 where
  pub said : Event
  pub reads : Reads event said
  pub step : IsStep old said step_result new

-- what an event gives and leaves is fixed by what became of it and the store's answer: a record, an answer and a line have one reading each
abbrev pub OneStep : Type 0
OneStep =
    (old new end : State) (event : JournalEvent) (completion : Completion) (store : StoreAnswer) (given other : Given)
    → Steps old event (comes_to completion store given) new → Steps old event (comes_to completion store other) end
    → (given ≡ other) × (new ≡ end)
