-- The calls that the server makes: results of message forms, grants, and notices of a restart. What is sent, to whom, how often, and whether it is due now.
use Rattle.std.specs.Prelude.{ℕ, ◌+◌, ◌%◌, ◌^◌, Bool, true, false, cond, ◌&&◌, eqb, leb, ltb, List, [], ◌∷◌, ◌++◌, ℤ, Option, Some, None}
use Rattle.definitions.specs.Bytes.{Bytes, same_bytes, eight_bytes, first_that, list_without, without_first}
use Rattle.definitions.specs.Owners.{Owner}
use Rattle.definitions.specs.Settings.{Mode}
use Rattle.definitions.specs.Nlm.{Version, Lock, TestArgs, TestRes, Res}
use Rattle.definitions.specs.Nsm.{MyId}

pub data Destination : Type 0 where
  ToHost : Bytes → Destination
  ToConnection : ℕ → Destination

-- what a local line asks to lock, as it came: the length 0 is to the end
pub record LocalLock : Type 0 where
  pub owner : Owner
  pub file : Bytes
  pub offset : ℕ
  pub len : ℕ

-- an NLM call is made in the version of the call that it answers. GRANTED and GRANTED_MSG carry the number's 8 bytes as cookie,
-- so a message holds no cookie for them
pub data Message : Type 0 where
  Granted : Version → Bool → Lock → Message
  GrantedMsg : Version → Bool → Lock → Message
  GrantedLine : Mode → LocalLock → Message
  TestResult : Version → TestRes → Message
  LockResult : Version → Res → Message
  CancelResult : Version → Res → Message
  UnlockResult : Version → Res → Message
  Status : MyId → Bytes → ℤ → Bytes → Message
  Notify : Bytes → ℤ → Message

pub record Callback : Type 0 where
  pub to : Destination
  pub message : Message

pub record Outgoing : Type 0 where
  pub number : ℕ
  pub callback : Callback
  pub sendings : ℕ
  pub is_due : Bool

-- the low 32 bits of the number
abbrev pub xid_of : Outgoing → ℕ
xid_of c = c.number % 2 ^ 32

-- the arguments of GRANTED and GRANTED_MSG
abbrev pub granted_args : ℕ → Bool → Lock → TestArgs
granted_args number exclusive alock = record { cookie = eight_bytes number; exclusive = exclusive; alock = alock }

abbrev pub due_now : ℕ → Callback → Outgoing
due_now number callback = record { number = number; callback = callback; sendings = 0; is_due = true }

abbrev pub next_due : List Outgoing → Option Outgoing
next_due calls = first_that (λ (c : Outgoing). c.is_due) calls

abbrev pub is_numbered : ℕ → Outgoing → Bool
is_numbered number c = eqb c.number number

abbrev pub without_call : ℕ → List Outgoing → List Outgoing
without_call number calls = without_first (is_numbered number) calls

-- a local line ends when it is sent; every other call waits for its answer
abbrev pub ends_when_sent : Message → Bool
ends_when_sent (GrantedLine mode lock) = true
ends_when_sent _ = false

abbrev pub once_more : Outgoing → Outgoing
once_more c = record c { sendings = c.sendings + 1; is_due = false }

-- the calls after the first due one was sent
abbrev pub after_sending : List Outgoing → List Outgoing
after_sending [] = []
after_sending (c ∷ calls) =
    cond c.is_due (cond (ends_when_sent c.callback.message) calls (once_more c ∷ calls)) (c ∷ after_sending calls)

-- a silence: nothing where the call is due; else it is due again, behind the others; after three sendings it is forgotten
abbrev pub after_silence_of : Outgoing → List Outgoing → List Outgoing
after_silence_of c calls =
    cond c.is_due calls
    (cond (leb 3 c.sendings) (without_call c.number calls) (without_call c.number calls ++ record c { is_due = true } ∷ []))

abbrev pub after_silence_at : Option Outgoing → List Outgoing → List Outgoing
after_silence_at None calls = calls
after_silence_at (Some c) calls = after_silence_of c calls

abbrev pub after_silence : ℕ → List Outgoing → List Outgoing
after_silence number calls = after_silence_at (first_that (is_numbered number) calls) calls

abbrev pub was_sent : Outgoing → Bool
was_sent c = leb 1 c.sendings

abbrev pub older : Option Outgoing → Outgoing → Outgoing
older None c = c
older (Some d) c = cond (ltb d.number c.number) d c

-- the oldest of the calls that pass: of least number, since numbers rise while a state lasts
abbrev pub oldest_that : (Outgoing → Bool) → List Outgoing → Option Outgoing
oldest_that test [] = None
oldest_that test (c ∷ calls) =
    let rest = oldest_that test calls in
    cond (test c) (Some (older rest c)) rest

-- the call that a reply belongs to
abbrev pub call_of_xid : ℕ → List Outgoing → Option Outgoing
call_of_xid xid calls = oldest_that (λ (c : Outgoing). eqb (xid_of c) xid && was_sent c) calls

abbrev pub is_granted_msg : Message → Bool
is_granted_msg (GrantedMsg version exclusive alock) = true
is_granted_msg _ = false

-- the call that a GRANTED_RES belongs to
abbrev pub call_of_cookie : Bytes → List Outgoing → Option Outgoing
call_of_cookie cookie calls =
    oldest_that (λ (c : Outgoing). is_granted_msg c.callback.message && (same_bytes (eight_bytes c.number) cookie && was_sent c)) calls

abbrev pub is_to_host : Bytes → Destination → Bool
is_to_host name (ToHost host) = same_bytes host name
is_to_host name (ToConnection l) = false

-- GRANTED or GRANTED_MSG
abbrev pub is_grant : Message → Bool
is_grant (Granted version exclusive alock) = true
is_grant (GrantedMsg version exclusive alock) = true
is_grant _ = false

-- a grant that this host has not answered
abbrev pub is_grant_to : Bytes → Outgoing → Bool
is_grant_to name c = is_grant c.callback.message && is_to_host name c.callback.to

abbrev pub without_grants_to : Bytes → List Outgoing → List Outgoing
without_grants_to name calls = list_without (is_grant_to name) calls
