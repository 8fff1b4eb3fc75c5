-- What is asked and what is answered: calls with their replies, and local lines with theirs, as values.
use Rattle.std.specs.Prelude.{ℕ, ℤ, List, Option}
use Rattle.definitions.specs.Bytes.{Bytes}
use Rattle.definitions.specs.Owners.{Owner}
use Rattle.definitions.specs.Settings.{Mode}
use Rattle.definitions.specs.Starts.{Run}
use Rattle.definitions.specs.Nlm.{Version, NlmCall, Res, TestRes, ShareRes, Stat}
use Rattle.definitions.specs.Nsm.{NsmCall, MonitorRes}
use Rattle.definitions.specs.Hosts.{HostRow}
use Rattle.definitions.specs.Outgoing.{LocalLock}

-- ---- calls by record (RFC 5531)

pub data Call : Type 0 where
  Nlm : Version → NlmCall → Call
  Nsm : NsmCall → Call

-- what follows SUCCESS. Versions differ in how a holder is spelled, so a result that may have one carries its call's
pub data Result : Type 0 where
  NoResult : Result
  ResResult : Res → Result
  TestResResult : Version → TestRes → Result
  ShareResult : ShareRes → Result
  MonitorResult : MonitorRes → ℤ → Result
  StateResult : ℤ → Result

-- why a call isn't given to its procedure
pub data Refusal : Type 0 where
  RpcMismatch : Refusal
  BadCredential : Refusal
  ProgUnavail : Refusal
  ProgMismatch : ℕ → ℕ → Refusal
  ProcUnavail : Refusal
  GarbageArgs : Refusal

pub data Outcome : Type 0 where
  Success : Result → Outcome
  Refuses : Refusal → Outcome
  SystemErr : Outcome

-- a record's verdict: ignored, refused, or a call, with its xid
pub data Reading : Type 0 where
  Ignored : Reading
  Turned : ℕ → Refusal → Reading
  Asks : ℕ → Call → Reading

-- an answer to one of the server's own calls: with the status that its result begins with, if it begins with a `res`
pub data AnswerReading : Type 0 where
  Unreadable : AnswerReading
  AcceptedSuccess : ℕ → Option Stat → AnswerReading
  OtherAnswer : ℕ → AnswerReading

-- ---- local lines

-- `getlk`, `setlk` and `setlkw` (no mode is `u`, an unlock), `close`, `table`, `hosts`, `quota`, `stop`, and a line that is none of them
pub data Line : Type 0 where
  GetLock : Mode → LocalLock → Line
  SetLock : Option Mode → LocalLock → Line
  SetLockWait : Option Mode → LocalLock → Line
  Close : Owner → Bytes → Line
  Table : Line
  HostList : Line
  SetQuota : Bytes → ℕ → Line
  Stop : Line
  BadLine : Line

-- `LineHeld` shows a run's mode, first byte, length (0 to the end) and owner
pub data LineReply : Type 0 where
  LineOk LineAgain LineWait LineDeadlk LineNolck LineFbig LineGrace LineFree LineAbsent LineRefused LineBad LineStarved : LineReply
  LineHeld : Mode → ℕ → ℕ → Owner → LineReply
  LineTable : List Run → LineReply
  LineHosts : List HostRow → LineReply
