-- What a datagram is answered.
use Rattle.std.specs.Prelude.{◌≡◌, Option, Some, None, ◌++◌}
use Rattle.definitions.specs.Bytes.{Bytes}
use Rattle.definitions.specs.Replies.{Refuses, ProgUnavail}
use Rattle.definitions.specs.Step.{Given, Nothing, Replies, Says, Sends, IsStarved, IsRefused}
use Rattle.call_codec.specs.Replies.{reply_bytes}
use Rattle.job_queue.specs.Task.{Task}
use Rattle.workers.specs.Answers.{Answer, IsMet, Worker, receipt_list}
use Rattle.datagram_calls.specs.declared.screening.Screened.{Screened}
use Rattle.datagram_calls.specs.declared.screening.Screened.TheVariants.{NoCall, Elsewhere, ForBook}
use Rattle.datagram_calls.specs.Screens.{IsScreened}

-- the record of what a call is given, if it is given one
abbrev pub reply_of : Given → Option Bytes
reply_of (Replies xid outcome) = Some (reply_bytes xid outcome)
reply_of Nothing = None
reply_of (Says line) = None
reply_of (Sends number callback) = None
reply_of IsStarved = None
reply_of IsRefused = None

-- the job was answered, by a record that may be answered for it, its receipt is the worker's newest, if it has one, and what goes back is what it was given
pub record IsTaken (may_answer : Bytes → Bytes → Type 0) (job : Task) (old new : Worker) (reply : Option Bytes) : Type 0 where
  pub answer : Answer
  pub is_of : answer.job ≡ job
  pub may : may_answer job.asked answer.answered
  pub met : IsMet answer answer.receipt
  pub given : reply ≡ reply_of answer.given
  pub receipts : new.receipts ≡ old.receipts ++ receipt_list answer.receipt
  pub seat : new.seat ≡ old.seat
  pub keeps : new.keeps ≡ old.keeps

-- what is done for a datagram, and what goes back
abbrev pub IsDone : (Bytes → Bytes → Type 0) → Screened → Task → Worker → Worker → Option Bytes → Type 0
IsDone may_answer NoCall job old new reply = (new ≡ old) × (reply ≡ None)
IsDone may_answer (Elsewhere xid) job old new reply = (new ≡ old) × (reply ≡ Some (reply_bytes xid (Refuses ProgUnavail)))
IsDone may_answer ForBook job old new reply = IsTaken may_answer job old new reply

abbrev pub IsAnswered : (Bytes → Bytes → Type 0) → Task → Worker → Worker → Option Bytes → Type 0
IsAnswered may_answer job old new reply = (screened : Screened) × IsScreened job.asked screened × IsDone may_answer screened job old new reply
