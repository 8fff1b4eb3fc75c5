-- What comes of an event.
use Rattle.std.specs.Prelude.{ℕ, List, [], Bool, true, false, cond, Option, Some, None}
use Rattle.definitions.specs.Step.{Given, Nothing, Replies, Says, Sends, IsStarved, IsRefused}
use Rattle.record_mark.specs.Sent.{marked_record}
use Rattle.local_ops.specs.Texts.{reply_text}
use Rattle.call_plans.specs.Planned.{view_of_stored}
use Rattle.daemon_core.specs.declared.event_outcome.EventOutcome.{EventOutcome}
use Rattle.daemon_core.specs.declared.event_outcome.EventOutcome.TheVariants.{Applied, Starved, NoSegment}
use Rattle.daemon_core.specs.Outcomes.{view_of_event_outcome}
use Rattle.step_order.specs.declared.store.StoreAnswer.{StoreAnswer}
use Rattle.step_order.specs.declared.store.StoreAnswer.TheVariants.{NotAsked}
use Rattle.book.specs.Given.{StepResult, comes_to, record_of}
use Rattle.daemon_core.specs.Sending.{Sending, ToClient, ToLocal, addressee, gets_records}
use Rattle.daemon_core.specs.declared.outputs.Outputs.{Outputs}
use Rattle.daemon_core.specs.declared.event.EventRefusal.{EventRefusal}
use Rattle.daemon_core.specs.declared.posted.Posted.{Posted}
use Rattle.daemon_core.specs.declared.posted.Posted.TheVariants as posted

abbrev pub heard : Option EventRefusal → Outputs
heard refusal = record { outcome = Applied; store = NotAsked; sent = None; refusal = refusal }

abbrev pub quiet : Outputs
quiet = heard None

abbrev pub starved_outputs : Outputs
starved_outputs = record { outcome = Starved; store = NotAsked; sent = None; refusal = Some EventRefusal.Starved }

-- there was no segment for its entry
abbrev pub unnoted_outputs : Outputs
unnoted_outputs = record { outcome = NoSegment; store = NotAsked; sent = None; refusal = Some EventRefusal.Starved }

-- a stream that breaks the rule of record marking is refused, and all else goes on
abbrev pub marked_by : Bool → Outputs
marked_by false = quiet
marked_by true = heard (Some EventRefusal.RecordTooLong)

-- a reply goes to the connection that asked
abbrev pub reply_to : ℕ → Given → Option Sending
reply_to number (Replies xid outcome) = Some (record { to = ToClient number; bytes = record_of (Replies xid outcome) })
reply_to number Nothing = None
reply_to number (Says line) = None
reply_to number (Sends call callback) = None
reply_to number IsStarved = None
reply_to number IsRefused = None

-- a call goes where its callback says
abbrev pub sent_on : Given → Option Sending
sent_on (Sends call callback) = Some (record { to = addressee callback.to; bytes = record_of (Sends call callback) })
sent_on (Replies xid outcome) = None
sent_on Nothing = None
sent_on (Says line) = None
sent_on IsStarved = None
sent_on IsRefused = None

-- the answer to a line goes to its connection
abbrev pub line_to : ℕ → Given → Option Sending
line_to l (Says line) = Some (record { to = ToLocal l; bytes = reply_text line })
line_to l (Replies xid outcome) = None
line_to l Nothing = None
line_to l (Sends call callback) = None
line_to l IsStarved = None
line_to l IsRefused = None

abbrev pub refusal_of : Given → Option EventRefusal
refusal_of IsStarved = Some EventRefusal.Starved
refusal_of IsRefused = Some EventRefusal.StoreRefused
refusal_of Nothing = None
refusal_of (Replies xid outcome) = None
refusal_of (Says line) = None
refusal_of (Sends call callback) = None

-- what the event came to that gave this
abbrev pub step_result_of : Outputs → Given → StepResult
step_result_of out given = comes_to (view_of_event_outcome out.outcome) (view_of_stored out.store) given

-- of an event that sends nothing
abbrev pub outputs_of : EventOutcome → StoreAnswer → Given → Outputs
outputs_of outcome store given = record { outcome = outcome; store = store; sent = None; refusal = refusal_of given }

-- of the sending of a call
abbrev pub told_call : EventOutcome → StoreAnswer → Given → Outputs
told_call outcome store given = record { outcome = outcome; store = store; sent = sent_on given; refusal = refusal_of given }

-- of a line that came on a local connection
abbrev pub told_line : ℕ → EventOutcome → StoreAnswer → Given → Outputs
told_line l outcome store given = record { outcome = outcome; store = store; sent = line_to l given; refusal = refusal_of given }

-- of a record that came on a connection
abbrev pub told_to : ℕ → EventOutcome → StoreAnswer → Given → Outputs
told_to number outcome store given = record { outcome = outcome; store = store; sent = reply_to number given; refusal = refusal_of given }

-- of a sending to the place in which this stands now
abbrev pub told_posted : Posted → Sending → Outputs
told_posted posted.Nothing send_buffer = quiet
told_posted posted.NoSegment send_buffer = unnoted_outputs
told_posted posted.Sent send_buffer = record { outcome = Applied; store = NotAsked; sent = Some send_buffer; refusal = None }

-- the bytes that are sent: a record as one fragment, and a line as it is
abbrev pub bytes_sent : Option Sending → List ℕ
bytes_sent None = []
bytes_sent (Some sent) = cond (gets_records sent.to) (marked_record sent.bytes) sent.bytes
