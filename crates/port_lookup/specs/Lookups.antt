-- The question to the port mapper of one host, step by step.
use Rattle.std.specs.Prelude.{◌≡◌, ℕ, Bool, true, false, leb, List, Option, Some, None}
use Rattle.std.specs.Time.{instant_nanos}
use Rattle.std.specs.declared.time.Instant.{Instant}
use Rattle.port_mapper.specs.declared.port.Port.{Port}
use Rattle.port_mapper.specs.declared.reply.Response.{Response}
use Rattle.port_mapper.specs.declared.reply.Response.TheVariants.{Other, NoResult, Result}
use Rattle.port_mapper.specs.Replies.{ReadsPort}
use Rattle.port_lookup.specs.declared.lookup.Transport.{Transport}
use Rattle.port_lookup.specs.declared.lookup.Transport.TheVariants.{Tcp, Udp}
use Rattle.port_lookup.specs.declared.lookup.Question.{Question}
use Rattle.port_lookup.specs.declared.lookup.State.{State}
use Rattle.port_lookup.specs.declared.lookup.State.TheVariants.{Idle, Asked, Named, Unnamed}
use Rattle.port_lookup.specs.declared.lookup.Action.{Action}
use Rattle.port_lookup.specs.declared.lookup.Action.TheVariants.{Nothing, Connect, SendDatagram, Close}

-- what happens: the port is needed, and may be asked for under an xid until a time; the port mapper refuses, or ends, what it is
-- asked over; a record or a datagram comes from it; it is so late; the connection to the port is refused or lost
pub data Event : Type 0 where
  Needed : ℕ → Instant → Event
  Refused : Event
  Came : List ℕ → Event
  Passed : Instant → Event
  Lost : Event

abbrev pub idle : State
idle = Idle

abbrev pub port_of : State → Option ℕ
port_of (Named port) = Some port.number
port_of _ = None

abbrev pub question_of : State → Option Question
question_of (Asked q) = Some q
question_of _ = None

-- the question goes over TCP first
abbrev pub first_question : ℕ → Instant → Question
first_question xid until = record { xid = xid; over = Tcp; until = until }

-- over UDP where TCP is refused, and over nothing where that is refused, too
abbrev pub after_refusal : Question → Transport → State × Action
after_refusal q Tcp = (Asked (record q { over = Udp }), SendDatagram)
after_refusal q Udp = (Unnamed, Close)

-- its time is up
abbrev pub is_up : Instant → Question → Bool
is_up now q = leb (instant_nanos q.until) (instant_nanos now)

abbrev pub after_time : Question → Bool → State × Action
after_time q true = (Unnamed, Close)
after_time q false = (Asked q, Nothing)

-- what the bytes say to the question: nothing, as a reply to another; that there is no port; or the port
abbrev pub after_response : Question → Response Port → State × Action
after_response q Other = (Asked q, Nothing)
after_response q NoResult = (Unnamed, Close)
after_response q (Result port) = (Named port, Close)

-- one event, but for bytes that come while it is asked: what is left, and what is to be done
abbrev pub after : State → Event → State × Action
after Idle (Needed xid until) = (Asked (first_question xid until), Connect)
after (Asked q) Refused = after_refusal q q.over
after (Asked q) (Passed now) = after_time q (is_up now q)
after (Named port) Lost = (Idle, Nothing)
after Unnamed Lost = (Idle, Nothing)
after old event = (old, Nothing)

abbrev pub Hears : Question → List ℕ → State → Action → Type 0
Hears q bytes new action = (response : Response Port) × ReadsPort q.xid bytes response × ((new, action) ≡ after_response q response)

abbrev pub Steps : State → Event → State → Action → Type 0
Steps (Asked q) (Came bytes) new action = Hears q bytes new action
Steps old event new action = (new, action) ≡ after old event
