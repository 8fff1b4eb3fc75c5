-- What a connection's own thread reads, puts and answers.
use Rattle.std.specs.Prelude.{◌≡◌, ℕ, ◌+◌, ◌<◌, Bool, true, false, List, [], ◌∷◌, ◌++◌, length, take, map, Option}
use Rattle.std.specs.Io.KnownBytes.{Consumes, IsAtEnd}
use Rattle.definitions.specs.Bytes.{Bytes}
use Rattle.record_mark.specs.Stream.{Splits}
use Rattle.record_mark.specs.declared.intake.ending.Ending.{Ending}
use Rattle.record_mark.specs.declared.intake.ending.Ending.TheVariants.{Over, Failed, TooLong, Closed, Starved}
use Rattle.kept_replies.specs.Pairs.{view_of_peer}
use Rattle.job_queue.specs.Task.{Task}
use Rattle.job_queue.specs.Passes.{with_hand}
use Rattle.reply_outbox.specs.Posted.{Sent}
use Rattle.workers.specs.declared.reading.Origin.{Origin}
use Rattle.workers.specs.Answers.{Answer, AreMet, all_sent, all_receipts, Worker, with_seat, Worked}

-- the job of this record, under the next number
abbrev pub job_of : Origin → Bytes → Task
job_of o asked = record { connection = o.connection; peer = view_of_peer o.peer; number = o.put; asked = asked }

-- so many more were put
abbrev pub origin_after : Origin → ℕ → Origin
origin_after o count = record { connection = o.connection; peer = o.peer; put = o.put + count }

-- the jobs of these records, numbered on
abbrev pub jobs_of : Origin → List Bytes → List Task
jobs_of o [] = []
jobs_of o (asked ∷ rest) = job_of o asked ∷ jobs_of (origin_after o 1) rest

-- these jobs were put, and some were taken and answered, in order, each by a record that may be answered for it
pub record ServesByChannel (may_answer : Bytes → Bytes → Type 0) (jobs : List Task) (old new : Worker) (sent sent' : List Sent) : Type 0 where
  pub answers : List Answer
  pub met : AreMet may_answer answers
  pub hand : new.seat ≡ with_hand old.seat (record { put = old.seat.hand.put ++ jobs; taken = old.seat.hand.taken ++ map (λ (a : Answer). a.job) answers })
  pub handed : sent' ≡ sent ++ all_sent answers
  pub receipts : new.receipts ≡ old.receipts ++ all_receipts answers
  pub keeps : new.keeps ≡ old.keeps

-- these jobs were answered, each at once and in order, by a record that may be answered for it, and the channel had none of them
pub record ServesAtOnce (may_answer : Bytes → Bytes → Type 0) (jobs : List Task) (old new : Worker) (sent sent' : List Sent) : Type 0 where
  pub answers : List Answer
  pub met : AreMet may_answer answers
  pub each : map (λ (a : Answer). a.job) answers ≡ jobs
  pub seat : new.seat ≡ old.seat
  pub handed : sent' ≡ sent ++ all_sent answers
  pub receipts : new.receipts ≡ old.receipts ++ all_receipts answers
  pub keeps : new.keeps ≡ old.keeps

-- by the channel where the gate may hold whoever answers, and else at once
abbrev pub Serves : (Bytes → Bytes → Type 0) → Bool → List Task → Worker → Worker → List Sent → List Sent → Type 0
Serves may_answer true jobs old new sent sent' = ServesByChannel may_answer jobs old new sent sent'
Serves may_answer false jobs old new sent sent' = ServesAtOnce may_answer jobs old new sent sent'

-- these were put, numbered on, and nothing else happened
pub record HavePut (records : List Bytes) (o o' : Origin) (old new : Worker) : Type 0 where
  pub numbered : o' ≡ origin_after o (length records)
  pub put : new ≡ with_seat old (with_hand old.seat (record { put = old.seat.hand.put ++ jobs_of o records; taken = old.seat.hand.taken }))

-- all were put, or those before one that came back
abbrev pub Puts : Bool → List Bytes → Origin → Origin → Worker → Worker → Type 0
Puts true records o o' old new = HavePut records o o' old new
Puts false records o o' old new = (count : ℕ) × (count < length records) × HavePut (take count records) o o' old new

-- these were put, numbered on, and jobs were taken and answered then; or they were answered at once, numbered on
abbrev pub Handled : (Bytes → Bytes → Type 0) → Bool → List Bytes → Origin → Origin → Worker → Worker → List Sent → List Sent → Type 0
Handled may_answer true records o o' old new sent sent' = (between : Worker) × HavePut records o o' old between × Worked may_answer between new sent sent'
Handled may_answer false records o o' old new sent sent' = (o' ≡ origin_after o (length records)) × ServesAtOnce may_answer (jobs_of o records) old new sent sent'

-- all records, or those before one that had no number or that the channel gave back
abbrev pub Handles : (Bytes → Bytes → Type 0) → Bool → Bool → List Bytes → Origin → Origin → Worker → Worker → List Sent → List Sent → Type 0
Handles may_answer holds true records o o' old new sent sent' = Handled may_answer holds records o o' old new sent sent'
Handles may_answer holds false records o o' old new sent sent' = (count : ℕ) × (count < length records) × Handled may_answer holds (take count records) o o' old new sent sent'

-- which records were put or answered, where these bytes of the stream make these records, and which bytes that were read are not among them:
-- for those there was no memory, or for the place of what is read, and then nothing was
abbrev pub EndsBy : Ending → List ℕ → List Bytes → Bool → ℕ → List ℕ → Option (List ℕ) → Type 0
EndsBy Over bytes records fault count lost after = (fault ≡ false) × (count ≡ length records) × (lost ≡ []) × IsAtEnd after
EndsBy Failed bytes records fault count lost after = (fault ≡ false) × (count ≡ length records) × (lost ≡ [])
EndsBy TooLong bytes records fault count lost after = (fault ≡ true) × (count ≡ length records) × (lost ≡ [])
EndsBy Closed bytes records fault count lost after = (count < length records) × (lost ≡ [])
EndsBy Starved bytes records fault count lost after = (fault ≡ false) × (count ≡ length records) × (lost ≡ [] → bytes ≡ [])

-- the jobs that were put, or answered at once, are, numbered on, those of the first records of the bytes that were read; all of
-- them, unless the channel took no more, or there was no number for one more, or no memory for the last bytes
pub record IsRead (may_answer : Bytes → Bytes → Type 0) (holds : Bool) (ending : Ending) (o o' : Origin) (before after : Option (List ℕ)) (old new : Worker) (sent sent' : List Sent) : Type 0 where
  pub bytes : List ℕ
  pub lost : List ℕ
  pub consumed : Consumes before after (bytes ++ lost)
  pub records : List Bytes
  pub fault : Bool
  pub splits : Splits bytes records fault
  pub count : ℕ
  pub ends : EndsBy ending bytes records fault count lost after
  pub numbered : o' ≡ origin_after o count
  pub serves : Serves may_answer holds (jobs_of o (take count records)) old new sent sent'
