-- What is counted of the entries of a journal.
use Rattle.std.specs.Prelude.{◌≡◌, ◌<◌, ◌^◌, ℕ, ◌+◌, Bool, true, false, ◌==◌, cond, List, [], ◌∷◌, ◌++◌}
use Rattle.definitions.specs.Nlm.{Stat, GRANTED, DENIED, DENIED_NOLOCKS, BLOCKED, DENIED_GRACE_PERIOD, DEADLCK, ROFS, STALE_FH, FBIG, FAILED}
use Rattle.definitions.specs.Nsm.{MonitorRes, STAT_SUCC, STAT_FAIL}
use Rattle.definitions.specs.Hosts.{StoreAnswer, NotAsked, Yes, Refused}
use Rattle.definitions.specs.Replies.{Result, NoResult, ResResult, TestResResult, ShareResult, MonitorResult, StateResult, Refusal, RpcMismatch, BadCredential, ProgUnavail, ProgMismatch, ProcUnavail, GarbageArgs, Outcome, Success, Refuses, SystemErr}
use Rattle.definitions.specs.Step.{Completion, Applied, Starved, Given, Nothing, Replies, Says, Sends, IsStarved, IsRefused}
use Rattle.book.specs.Given.{StepResult, comes_to}
use Rattle.book.specs.Notes.{Note, JournalEvent, Takes, SendsNext, HearsAnswer, AsksLine, FallsSilent, GraceEnds, BeginsAnew}
use Rattle.event_counts.specs.Numbers.{Numbers, number_at}
use Rattle.event_counts.specs.Places.{call_place, record_place, event_place}
use Rattle.event_counts.specs.declared.outcomes.CallOutcome.{CallOutcome}
use Rattle.event_counts.specs.declared.outcomes.CallOutcome.TheVariants as got
use Rattle.event_counts.specs.declared.happenings.Happening.{Happening}
use Rattle.event_counts.specs.declared.happenings.Happening.TheVariants as happening
use Rattle.event_counts.specs.declared.happenings.StoreReply.{StoreReply}
use Rattle.event_counts.specs.declared.happenings.StoreReply.TheVariants as store

-- ---- what a call got (RFC 5531, section 9; RFC 1813, appendix II, nlm4_stats; XNFS)

abbrev pub got_by_stat : Stat → CallOutcome
got_by_stat GRANTED = got.Granted
got_by_stat DENIED = got.Denied
got_by_stat DENIED_NOLOCKS = got.DeniedNolocks
got_by_stat BLOCKED = got.Blocked
got_by_stat DENIED_GRACE_PERIOD = got.DeniedGracePeriod
got_by_stat DEADLCK = got.Deadlck
got_by_stat ROFS = got.Rofs
got_by_stat STALE_FH = got.StaleFh
got_by_stat FBIG = got.Fbig
got_by_stat FAILED = got.Failed

abbrev pub got_by_monitor : MonitorRes → CallOutcome
got_by_monitor STAT_SUCC = got.Success
got_by_monitor STAT_FAIL = got.StatFail

abbrev pub got_by_result : Result → CallOutcome
got_by_result NoResult = got.Success
got_by_result (ResResult res) = got_by_stat res.stat
got_by_result (TestResResult version res) = got_by_stat res.stat
got_by_result (ShareResult res) = got_by_stat res.stat
got_by_result (MonitorResult res state) = got_by_monitor res
got_by_result (StateResult state) = got.Success

abbrev pub got_by_refusal : Refusal → CallOutcome
got_by_refusal RpcMismatch = got.RpcMismatch
got_by_refusal BadCredential = got.BadCredential
got_by_refusal ProgUnavail = got.ProgUnavail
got_by_refusal (ProgMismatch low high) = got.ProgMismatch
got_by_refusal ProcUnavail = got.ProcUnavail
got_by_refusal GarbageArgs = got.GarbageArgs

abbrev pub got_by_outcome : Outcome → CallOutcome
got_by_outcome (Success told) = got_by_result told
got_by_outcome (Refuses why) = got_by_refusal why
got_by_outcome SystemErr = got.SystemErr

abbrev pub got_of : Given → CallOutcome
got_of (Replies xid outcome) = got_by_outcome outcome
got_of Nothing = got.NoReply
got_of (Says line) = got.NoReply
got_of (Sends number callback) = got.NoReply
got_of IsStarved = got.NoReply
got_of IsRefused = got.NoReply

-- ---- what happened

abbrev pub happening_of : JournalEvent → Happening
happening_of (Takes peer asked) = happening.Call
happening_of SendsNext = happening.Sent
happening_of (HearsAnswer bytes) = happening.Answer
happening_of (AsksLine l line) = happening.Line
happening_of (FallsSilent number) = happening.Silence
happening_of GraceEnds = happening.GraceOver
happening_of BeginsAnew = happening.Restart

-- whether it met want of memory
abbrev pub is_wanting : Completion → Bool
is_wanting Applied = false
is_wanting Starved = true

abbrev pub store_reply_of : StoreAnswer → StoreReply
store_reply_of NotAsked = store.NotAsked
store_reply_of Yes = store.Agreed
store_reply_of Refused = store.Refused

-- ---- which counter counts which entry

-- one that took a record is counted by the procedure that the record calls, and by what it got
abbrev pub is_counted_call : ℕ → JournalEvent → Given → Bool
is_counted_call k (Takes peer asked) given = k == call_place (record_place asked) (got_of given)
is_counted_call k SendsNext given = false
is_counted_call k (HearsAnswer bytes) given = false
is_counted_call k (AsksLine l line) given = false
is_counted_call k (FallsSilent number) given = false
is_counted_call k GraceEnds given = false
is_counted_call k BeginsAnew given = false

abbrev pub is_call_at : ℕ → Note → Bool
is_call_at k n = is_counted_call k n.event n.step_result.given

-- each is counted by what happened, whether it met want of memory, and what the store answered
abbrev pub is_event_at : ℕ → Note → Bool
is_event_at k n = k == event_place (happening_of n.event) (is_wanting n.step_result.completion) (store_reply_of n.step_result.store)

-- how many entries pass the test
abbrev pub number_that : (Note → Bool) → List Note → ℕ
number_that test [] = 0
number_that test (n ∷ notes) = cond (test n) 1 0 + number_that test notes

-- each number is that of the entries that its counter counts
pub record AreCountsOf (notes : List Note) (numbers : Numbers) : Type 0 where
  pub calls : (k : ℕ) → number_at numbers.calls k ≡ number_that (is_call_at k) notes
  pub events : (k : ℕ) → number_at numbers.events k ≡ number_that (is_event_at k) notes

abbrev pub note_of : ℕ → JournalEvent → StepResult → Note
note_of number event step_result = record { number = number; event = event; step_result = step_result }

-- what counted some entries counts one more
abbrev pub CountsMore : JournalEvent → StepResult → Numbers → Numbers → Type 0
CountsMore event step_result old new =
    (notes : List Note) (number : ℕ) → AreCountsOf notes old → AreCountsOf (notes ++ note_of number event step_result ∷ []) new

-- a sending was counted, if there was one
abbrev pub CountsSent : Bool → Numbers → Numbers → Type 0
CountsSent true old new = (given : Given) → CountsMore SendsNext (comes_to Applied NotAsked given) old new
CountsSent false old new = new ≡ old

-- each counter may count one more
pub record HasRoom (numbers : Numbers) : Type 0 where
  pub calls : (k : ℕ) → number_at numbers.calls k + 1 < 2 ^ 64
  pub events : (k : ℕ) → number_at numbers.events k + 1 < 2 ^ 64
