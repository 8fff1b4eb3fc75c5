-- The shared state, the connections, and what they are answered, as a fold over events.
use Rattle.std.specs.Prelude.{◌≡◌, ℕ, ◌≤◌, ◌⊎◌, ◌==◌, true, List, [], ◌∷◌, ◌++◌, length, flat_map, Option, Some, None, slice_get, slice_set}
use Rattle.std.specs.List.{position, remove}
use Rattle.definitions.specs.Bytes.{Bytes}
use Rattle.definitions.specs.Hosts.{Hosts}
use Rattle.definitions.specs.World.{Rules, the_rules}
use Rattle.definitions.specs.Step.{Given, State, opening_state_with}
use Rattle.kept_replies.specs.declared.key.Peer.{Peer}
use Rattle.kept_replies.specs.Pairs.{view_of_peer}
use Rattle.step_order.specs.declared.store.StoreAnswer.{StoreAnswer}
use Rattle.step_order.specs.declared.store.StoreAnswer.TheVariants.{NotAsked, Yes, Refused}
use Rattle.call_plans.specs.Planned.{view_of_stored, refusal_count}
use Rattle.book.specs.Journal.{Book, TakesMemory}
use Rattle.book.specs.Notes.{JournalEvent, Takes, SendsNext, HearsAnswer, AsksLine, FallsSilent, GraceEnds, BeginsAnew, Steps}
use Rattle.daemon_core.specs.declared.event_outcome.EventOutcome.{EventOutcome}
use Rattle.daemon_core.specs.declared.event_outcome.EventOutcome.TheVariants.{Applied, Starved, NoSegment}
use Rattle.daemon_core.specs.declared.event.Event.{Event}
use Rattle.daemon_core.specs.declared.event.Event.TheVariants.{Connect, Piece, Disconnect, Take, Send, Answer, Local, Silent, GraceOver, Restart}
use Rattle.daemon_core.specs.declared.outputs.Outputs.{Outputs}
use Rattle.daemon_core.specs.Outcomes.{needs_entry}
use Rattle.daemon_core.specs.Outputs.{quiet, starved_outputs, step_result_of, outputs_of, told_call, told_line, told_to, bytes_sent}
use Rattle.daemon_core.specs.Rooms.{Room, room_of_journal, RoomAfter}
use Rattle.record_mark.specs.Untaken.{AreRecords, untaken_records}
use Rattle.daemon_core.specs.Link.{Link, fresh, with_taken, Receives}

-- the shared state, how often the store has refused, the room of the journal, and the connections, each with all that came on it
pub record DaemonState : Type 0 where
  pub state : State
  pub refusals : ℕ
  pub room : Room
  pub links : List Link

abbrev pub opening_with : Bytes → Rules → Hosts → ℕ → DaemonState
opening_with name rules hosts refusals = record { state = opening_state_with name rules hosts; refusals = refusals; room = record { left = 1024; next = 1 }; links = [] }

abbrev pub opening : Bytes → Hosts → ℕ → DaemonState
opening name hosts refusals = opening_with name the_rules hosts refusals

-- what a book shows of itself, with these connections
abbrev pub daemon_state_of : Book → List Link → DaemonState
daemon_state_of book links = record { state = book.journal.end; refusals = book.refusals; room = room_of_journal book.journal; links = links }

abbrev pub with_links : DaemonState → List Link → DaemonState
with_links daemon_state links = record daemon_state { links = links }

-- the place of the connection
abbrev pub place_of : ℕ → List Link → Option ℕ
place_of number links = position (λ (l : Link). l.number == number) links

abbrev pub IsQuiet : DaemonState → Outputs → DaemonState → Type 0
IsQuiet old out new = (new ≡ old) × (out ≡ quiet)

-- a connection whose number is in use doesn't begin
abbrev pub Connects : Option ℕ → EventOutcome → ℕ → Peer → DaemonState → Outputs → DaemonState → Type 0
Connects (Some place) outcome number peer old out new = IsQuiet old out new
Connects None Applied number peer old out new = (new ≡ with_links old (old.links ++ fresh number peer ∷ [])) × (out ≡ quiet)
Connects None Starved number peer old out new = (new ≡ old) × (out ≡ starved_outputs)
Connects None NoSegment number peer old out new = ⊥

abbrev pub Disconnects : Option ℕ → DaemonState → Outputs → DaemonState → Type 0
Disconnects None old out new = IsQuiet old out new
Disconnects (Some place) old out new = (new ≡ with_links old (remove old.links place)) × (out ≡ quiet)

-- bytes come to the connection at the place
pub record Brings (place : ℕ) (bytes : List ℕ) (old : DaemonState) (out : Outputs) (new : DaemonState) : Type 0 where
  pub link : Link
  pub there : slice_get old.links place ≡ Some link
  pub link' : Link
  pub receives : Receives link.receives link bytes out link'
  pub rest : new ≡ with_links old (slice_set old.links place link')

abbrev pub Pieces : Option ℕ → List ℕ → DaemonState → Outputs → DaemonState → Type 0
Pieces None bytes old out new = IsQuiet old out new
Pieces (Some place) bytes old out new = Brings place bytes old out new

-- an event that needs an entry has none: no store is asked, and nothing changes
pub record IsUnnoted (event : JournalEvent) (old : State) (out : Outputs) (new : State) : Type 0 where
  pub needed : needs_entry event old ≡ true
  pub unasked : out.store ≡ NotAsked
  pub unchanged : new ≡ old

-- the record of all the bytes that is the i-th of those that were not taken is answered
pub record Answers (place i : ℕ) (old : DaemonState) (out : Outputs) (new : DaemonState) : Type 0 where
  pub link : Link
  pub there : slice_get old.links place ≡ Some link
  pub records : List (List ℕ)
  pub are : AreRecords link.received records
  pub bytes : List ℕ
  pub is : slice_get (untaken_records records link.taken) i ≡ Some bytes
  pub given : Given
  pub step : Steps old.state (Takes (view_of_peer link.peer) bytes) (step_result_of out given) new.state
  pub refusals : new.refusals ≡ refusal_count (view_of_stored out.store) old.refusals
  pub unnoted : out.outcome ≡ NoSegment → IsUnnoted (Takes (view_of_peer link.peer) bytes) old.state out new.state
  pub room : RoomAfter out.outcome true old.room new.room
  pub links : new.links ≡ slice_set old.links place (with_taken link i)
  pub outputs : out ≡ told_to link.number out.outcome out.store given

-- there is no such record
pub record HasNone (place i : ℕ) (old : DaemonState) (out : Outputs) (new : DaemonState) : Type 0 where
  pub link : Link
  pub there : slice_get old.links place ≡ Some link
  pub records : List (List ℕ)
  pub are : AreRecords link.received records
  pub few : length (untaken_records records link.taken) ≤ i
  pub quiet : IsQuiet old out new

abbrev pub TakesAt : Option ℕ → ℕ → DaemonState → Outputs → DaemonState → Type 0
TakesAt None i old out new = IsQuiet old out new
TakesAt (Some place) i old out new = Answers place i old out new ⊎ HasNone place i old out new

-- so many records of the connection are whole and were not taken
pub record HasWaiting (place : ℕ) (daemon_state : DaemonState) (count : ℕ) : Type 0 where
  pub link : Link
  pub there : slice_get daemon_state.links place ≡ Some link
  pub records : List (List ℕ)
  pub are : AreRecords link.received records
  pub counted : count ≡ length (untaken_records records link.taken)

abbrev pub Waits : Option ℕ → DaemonState → ℕ → Type 0
Waits None daemon_state count = count ≡ 0
Waits (Some place) daemon_state count = HasWaiting place daemon_state count

-- all connections end where the server begins anew, which the store agreed to
abbrev pub links_after : JournalEvent → StoreAnswer → List Link → List Link
links_after BeginsAnew Yes links = []
links_after BeginsAnew NotAsked links = links
links_after BeginsAnew Refused links = links
links_after (Takes peer bytes) store links = links
links_after SendsNext store links = links
links_after (HearsAnswer bytes) store links = links
links_after (AsksLine l line) store links = links
links_after (FallsSilent number) store links = links
links_after GraceEnds store links = links

-- an event of the shared state, and what is told of it: a sending, an answer, a silence and the end of grace starve only where
-- the segment that stands is full and there is no other for their entry
pub record Happens (tell : EventOutcome → StoreAnswer → Given → Outputs) (event : JournalEvent) (old : DaemonState) (out : Outputs) (new : DaemonState) : Type 0 where
  pub given : Given
  pub step : Steps old.state event (step_result_of out given) new.state
  pub refusals : new.refusals ≡ refusal_count (view_of_stored out.store) old.refusals
  pub fed : out.outcome ≡ Starved → TakesMemory event
  pub unnoted : out.outcome ≡ NoSegment → IsUnnoted event old.state out new.state
  pub room : RoomAfter out.outcome (needs_entry event old.state) old.room new.room
  pub links : new.links ≡ links_after event out.store old.links
  pub outputs : out ≡ tell out.outcome out.store given

-- the call that is due first is sent, if one is
abbrev pub SendStep : DaemonState → Outputs → DaemonState → Type 0
SendStep = Happens told_call SendsNext

-- one event
abbrev pub DaemonStep : DaemonState → Event → Outputs → DaemonState → Type 0
DaemonStep old (Connect number peer) out new = Connects (place_of number old.links) out.outcome number peer old out new
DaemonStep old (Piece number bytes) out new = Pieces (place_of number old.links) bytes.items old out new
DaemonStep old (Disconnect number) out new = Disconnects (place_of number old.links) old out new
DaemonStep old (Take number i) out new = TakesAt (place_of number old.links) i old out new
DaemonStep old (Send send_buffer) out new = SendStep old out new
DaemonStep old (Answer bytes) out new = Happens outputs_of (HearsAnswer bytes.items) old out new
DaemonStep old (Local l line) out new = Happens (told_line l) (AsksLine l line.items) old out new
DaemonStep old (Silent number) out new = Happens outputs_of (FallsSilent number) old out new
DaemonStep old GraceOver out new = Happens outputs_of GraceEnds old out new
DaemonStep old Restart out new = Happens outputs_of BeginsAnew old out new

-- all events, one after another
abbrev pub Run : DaemonState → List Event → List Outputs → DaemonState → Type 0
Run old [] [] new = new ≡ old
Run old (event ∷ events) (out ∷ outs) new = (mid : DaemonState) × DaemonStep old event out mid × Run mid events outs new
Run old [] (out ∷ outs) new = ⊥
Run old (event ∷ events) [] new = ⊥

-- the same became of the events, and the store answered alike
abbrev pub AreAlike : List Outputs → List Outputs → Type 0
AreAlike [] [] = Unit {0}
AreAlike (out ∷ outs) (other ∷ others) = (out.outcome ≡ other.outcome) × (out.store ≡ other.store) × AreAlike outs others
AreAlike [] (other ∷ others) = ⊥
AreAlike (out ∷ outs) [] = ⊥

-- all the bytes that are sent, in order
abbrev pub all_bytes_sent : List Outputs → List ℕ
all_bytes_sent outs = flat_map (λ (o : Outputs). bytes_sent o.sent) outs

-- events, want of memory and the store's answers fix all outputs and the end
abbrev pub HasOneRun : Type 0
HasOneRun =
    (old new end : DaemonState) (events : List Event) (outs others : List Outputs) → Run old events outs new → Run old events others end → AreAlike outs others
    → (outs ≡ others) × (new ≡ end)
