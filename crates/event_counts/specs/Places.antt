-- Where a counter stands. Calls are counted by program, version and procedure, and by what they got; all entries by what happened,
-- whether it met want of memory, and what the store answered.
use Rattle.std.specs.Prelude.{ℕ, Bool, cond, ◌+◌, ◌*◌, ◌&&◌, ◌==◌, nat_lt, leb, List, length, take, drop}
use Rattle.std.specs.Int.{w32, from_be_bytes}
use Rattle.event_counts.specs.declared.outcomes.CallOutcome.{CallOutcome}
use Rattle.event_counts.specs.declared.outcomes.CallOutcome.TheVariants as got
use Rattle.event_counts.specs.declared.happenings.Happening.{Happening}
use Rattle.event_counts.specs.declared.happenings.Happening.TheVariants as happening
use Rattle.event_counts.specs.declared.happenings.StoreReply.{StoreReply}
use Rattle.event_counts.specs.declared.happenings.StoreReply.TheVariants as store

-- ---- calls

-- where none of the procedures below is called
abbrev pub other_place : ℕ
other_place = 79

abbrev pub nlm_place : ℕ → ℕ → ℕ
nlm_place version procedure = cond (version == 1) procedure (cond (version == 3) (24 + procedure) (cond (version == 4) (48 + procedure) other_place))

-- the procedures 0 to 23 of NLM 1, 3 and 4 (RFC 1813, appendix II), and 0 to 6 of NSM 1 (XNFS), have a place each
abbrev pub procedure_place : ℕ → ℕ → ℕ → ℕ
procedure_place program version procedure =
    cond (program == 100021 && nat_lt procedure 24) (nlm_place version procedure)
    (cond (program == 100024 && (version == 1 && nat_lt procedure 7)) (72 + procedure) other_place)

-- four bytes as a number, from there on
abbrev pub word_at : List ℕ → ℕ → ℕ
word_at bytes at = from_be_bytes w32 (take 4 (drop at bytes))

-- a record that begins as a call of RPC version 2: its six words are xid, CALL, version, program, its version, procedure (RFC 5531, section 9)
abbrev pub is_call : List ℕ → Bool
is_call bytes = leb 24 (length bytes) && (word_at bytes 4 == 0 && word_at bytes 8 == 2)

abbrev pub record_place : List ℕ → ℕ
record_place bytes = cond (is_call bytes) (procedure_place (word_at bytes 12) (word_at bytes 16) (word_at bytes 20)) other_place

abbrev pub outcome_number : CallOutcome → ℕ
outcome_number got.NoReply = 0
outcome_number got.Success = 1
outcome_number got.Granted = 2
outcome_number got.Denied = 3
outcome_number got.DeniedNolocks = 4
outcome_number got.Blocked = 5
outcome_number got.DeniedGracePeriod = 6
outcome_number got.Deadlck = 7
outcome_number got.Rofs = 8
outcome_number got.StaleFh = 9
outcome_number got.Fbig = 10
outcome_number got.Failed = 11
outcome_number got.StatFail = 12
outcome_number got.RpcMismatch = 13
outcome_number got.BadCredential = 14
outcome_number got.ProgUnavail = 15
outcome_number got.ProgMismatch = 16
outcome_number got.ProcUnavail = 17
outcome_number got.GarbageArgs = 18
outcome_number got.SystemErr = 19

-- the counter of calls whose procedure has this place, and that got this
abbrev pub call_place : ℕ → CallOutcome → ℕ
call_place procedure outcome = 20 * procedure + outcome_number outcome

-- ---- all entries

abbrev pub happening_number : Happening → ℕ
happening_number happening.Call = 0
happening_number happening.Sent = 1
happening_number happening.Answer = 2
happening_number happening.Silence = 3
happening_number happening.Line = 4
happening_number happening.GraceOver = 5
happening_number happening.Restart = 6

abbrev pub store_number : StoreReply → ℕ
store_number store.NotAsked = 0
store_number store.Agreed = 1
store_number store.Refused = 2

-- the counter of what happened, met want of memory or not, and had this of the store
abbrev pub event_place : Happening → Bool → StoreReply → ℕ
event_place what starved answered = 6 * happening_number what + (cond starved 3 0 + store_number answered)
