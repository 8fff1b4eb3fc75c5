-- What a worker answered.
use Rattle.std.specs.Prelude.{◌≡◌, ℕ, Bool, List, [], ◌∷◌, ◌++◌, map, Option, Some, None}
use Rattle.definitions.specs.Bytes.{Bytes}
use Rattle.definitions.specs.Hosts.{NotAsked}
use Rattle.definitions.specs.Step.{State, Given, Starved}
use Rattle.book.specs.Given.{comes_to, record_of}
use Rattle.book.specs.Notes.{JournalEvent, Takes, Steps}
use Rattle.book.specs.Receipts.{Receipt}
use Rattle.book.specs.declared.receipt.Taken.{Taken}
use Rattle.kept_replies.specs.Pairs.{view_of_peer}
use Rattle.job_queue.specs.Task.{Task}
use Rattle.job_queue.specs.declared.passes.View.{View}
use Rattle.job_queue.specs.Passes.{with_hand}
use Rattle.reply_outbox.specs.Posted.{Sent, sent_of_reply}

abbrev pub view_of_taken : Taken → JournalEvent
view_of_taken t = Takes (view_of_peer t.peer) t.«record»

-- the receipts of the calls that were taken, and whether they are kept
pub record Papers : Type 0 where
  pub receipts : List Receipt
  pub keeps : Bool

abbrev pub with_receipt : Papers → Receipt → Papers
with_receipt papers receipt = record papers { receipts = papers.receipts ++ receipt ∷ [] }

-- the call has one receipt more, which is of its peer and record, and the reply of that receipt is what is handed over
abbrev pub TakesCall : Taken → ℕ → Papers → Papers → List Sent → List Sent → Type 0
TakesCall taken connection papers papers' sent sent' =
    (receipt : Receipt) × (given : Given) × (receipt.event ≡ view_of_taken taken) × (record_of given ≡ receipt.reply)
    × (papers' ≡ with_receipt papers receipt) × (sent' ≡ sent ++ sent_of_reply connection given)

-- what an event gives that met want of memory before it began: a call SYSTEM_ERR, or nothing where its record is ignored
abbrev pub StarvesAs : JournalEvent → Given → Type 0
StarvesAs event given = (s : State) → Steps s event (comes_to Starved NotAsked given) s

-- that is what is handed over
abbrev pub TurnsBack : Taken → ℕ → List Sent → List Sent → Type 0
TurnsBack taken connection sent sent' = (given : Given) × StarvesAs (view_of_taken taken) given × (sent' ≡ sent ++ sent_of_reply connection given)

-- a job that was taken, the record that was answered for it, the receipt of its entry, if there is one, and what it was given
pub record Answer : Type 0 where
  pub job : Task
  pub answered : Bytes
  pub receipt : Option Receipt
  pub given : Given

-- its peer asks the record that was answered for it
abbrev pub asks : Answer → JournalEvent
asks a = Takes a.job.peer a.answered

-- the receipt is of this job's peer and of the record that was answered, and it was given the receipt's reply; without an entry, what a
-- starved call gets
abbrev pub IsMet : Answer → Option Receipt → Type 0
IsMet a (Some r) = (r.event ≡ asks a) × (record_of a.given ≡ r.reply)
IsMet a None = StarvesAs (asks a) a.given

-- and for each job a record was answered that may be
abbrev pub AreMet : (Bytes → Bytes → Type 0) → List Answer → Type 0
AreMet may_answer [] = Unit {0}
AreMet may_answer (a ∷ rest) = (may_answer a.job.asked a.answered × IsMet a a.receipt) × AreMet may_answer rest

abbrev pub sent_for : Answer → List Sent
sent_for a = sent_of_reply a.job.connection a.given

abbrev pub all_sent : List Answer → List Sent
all_sent [] = []
all_sent (a ∷ rest) = sent_for a ++ all_sent rest

abbrev pub receipt_list : Option Receipt → List Receipt
receipt_list (Some r) = r ∷ []
receipt_list None = []

abbrev pub all_receipts : List Answer → List Receipt
all_receipts [] = []
all_receipts (a ∷ rest) = receipt_list a.receipt ++ all_receipts rest

-- what its seat knows, all receipts that it was given, and whether they are kept
pub record Worker : Type 0 where
  pub seat : View
  pub receipts : List Receipt
  pub keeps : Bool

abbrev pub with_seat : Worker → View → Worker
with_seat w seat = record { seat = seat; receipts = w.receipts; keeps = w.keeps }

abbrev pub with_jobs : View → List Task → View
with_jobs v jobs = with_hand v (record { put = v.hand.put; taken = v.hand.taken ++ jobs })

-- these jobs were taken and answered, in order, each by a record that may be answered for it: each receipt is of that record, and each
-- reply goes to the connection of its job
pub record Answered (may_answer : Bytes → Bytes → Type 0) (answers : List Answer) (old new : Worker) (sent sent' : List Sent) : Type 0 where
  pub met : AreMet may_answer answers
  pub taken : new.seat ≡ with_jobs old.seat (map (λ (a : Answer). a.job) answers)
  pub handed : sent' ≡ sent ++ all_sent answers
  pub receipts : new.receipts ≡ old.receipts ++ all_receipts answers
  pub keeps : new.keeps ≡ old.keeps

-- all that the worker did was to take jobs and to answer them
abbrev pub Worked : (Bytes → Bytes → Type 0) → Worker → Worker → List Sent → List Sent → Type 0
Worked may_answer old new sent sent' = (answers : List Answer) × Answered may_answer answers old new sent sent'
