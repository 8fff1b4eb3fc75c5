-- The server's own calls that wait for their answers, and the answers that came.
use Rattle.std.specs.Prelude.{◌≡◌, ◌⊎◌, ℕ, ◌/◌, ◌%◌, ◌^◌, ◌+◌, ◌≤◌, ◌==◌, Bool, true, false, not, ◌&&◌, leb, eqb, slice_range, if◌then◌else◌, List, [], ◌∷◌, ◌++◌, length, Option, Some, None, position, slice_set, filter, IsPermutation}
use Rattle.std.specs.Int.{from_be_bytes, w32}
use Rattle.std.specs.Option.{option_eq}
use Rattle.std.specs.Time.{instant_nanos}
use Rattle.std.specs.declared.time.Instant.{Instant}
use Rattle.definitions.specs.Bytes.{Bytes}
use Rattle.rpc_msg.specs.declared.answer.AnswerOutcome.{AnswerOutcome}
use Rattle.rpc_msg.specs.Answered.{IsAnswerOf, IsNoAnswer}
use Rattle.callback_sender.specs.declared.pending_calls.PendingCall.{PendingCall}

-- ---- a call's record (RFC 5531, section 9)

-- the word at this place
abbrev pub word_at : ℕ → Bytes → Option ℕ
word_at place bytes = if leb (place + 4) (length bytes) then Some (from_be_bytes w32 (slice_range bytes place (place + 4))) else None

-- its program, the fourth word, and its procedure, the sixth, are these
abbrev pub is_call_of : ℕ → ℕ → Bytes → Bool
is_call_of program procedure bytes = option_eq eqb (word_at 12 bytes) (Some program) && option_eq eqb (word_at 20 bytes) (Some procedure)

-- its reply ends the call: not a GRANTED_MSG (XNFS, NLM_GRANTED_MSG), which a call of the peer's own answers
abbrev pub ends_with_reply : Bytes → Bool
ends_with_reply bytes = not (is_call_of 100021 10 bytes)

-- ---- the calls that wait

-- a reply that came, and the number of the call that it answers
pub record HeardReply : Type 0 where
  pub number : ℕ
  pub bytes : Bytes

-- the calls that wait, in no order, and the answers that came, the oldest first
pub record Waits : Type 0 where
  pub calls : List PendingCall
  pub heard : List HeardReply

abbrev pub no_waits : Waits
no_waits = record { calls = []; heard = [] }

-- the call of this number became due under this own state (a number is its own state times 2^32, and a count)
abbrev pub is_under : ℕ → ℕ → Bool
is_under own_state number = number / 2 ^ 32 == own_state

-- of the calls and the answers just those whose call became due under this own state, in the order in which they were
abbrev pub kept_under : ℕ → Waits → Waits
kept_under own_state waits = record {
  calls = filter (λ (call : PendingCall). is_under own_state call.number) waits.calls;
  heard = filter (λ (heard : HeardReply). is_under own_state heard.number) waits.heard;
}

-- it is the call of this number
abbrev pub is_numbered : ℕ → PendingCall → Bool
is_numbered number call = call.number == number

-- it was sent to the peer at this place
abbrev pub is_to : ℕ → PendingCall → Bool
is_to peer call = elim call.peer [ None ↦ false | Some place ↦ place == peer ]

-- it waits for this peer's answer of this xid, the low 32 bits of its number, and has none yet
abbrev pub awaits : ℕ → ℕ → PendingCall → Bool
awaits peer xid call = not call.is_answered && is_to peer call && (call.number % 2 ^ 32 == xid)

-- its time is up
abbrev pub is_up : Instant → PendingCall → Bool
is_up now call = leb (instant_nanos call.until) (instant_nanos now)

-- the calls, and this one in place of the one that had its number, else behind all others
abbrev pub with_call : PendingCall → List PendingCall → List PendingCall
with_call call calls = elim (position (is_numbered call.number) calls) [ None ↦ calls ++ call ∷ [] | Some i ↦ slice_set calls i call ]

-- the call waits, or waits anew; where all places are taken, and none is its own, all stays
abbrev pub AddsCall : ℕ → PendingCall → Waits → Waits → Type 0
AddsCall places call old new =
    (new ≡ record old { calls = with_call call old.calls })
    ⊎ ((new ≡ old) × (places ≤ length old.calls) × (position (is_numbered call.number) old.calls ≡ None))

-- ---- replies

-- the bytes begin with a reply of this xid, up to its accept_stat or reject_stat (RFC 5531, section 9)
abbrev pub IsReplyTo : ℕ → Bytes → Type 0
IsReplyTo xid bytes = (outcome : AnswerOutcome) × IsAnswerOf bytes xid outcome

-- no call awaits what came from this peer: it is no reply, or that of another call
abbrev pub NobodyAwaits : ℕ → Bytes → List PendingCall → Type 0
NobodyAwaits peer bytes calls = IsNoAnswer bytes ⊎ ((xid : ℕ) × IsReplyTo xid bytes × (position (awaits peer xid) calls ≡ None))

-- what its reply leaves of a call: none, or the call as answered, which waits on for a call of the peer's own
abbrev pub after_reply : PendingCall → List PendingCall
after_reply call = if call.ends_with_reply then [] else (record call { is_answered = true } ∷ [])

-- what came from this peer is the reply that a call awaits: it stands behind those that came before, and all other calls wait on
pub record HearsReply (peer : ℕ) (bytes : Bytes) (old new : Waits) : Type 0 where
  pub xid : ℕ
  pub is_reply : IsReplyTo xid bytes
  pub call : PendingCall
  pub is_awaited : awaits peer xid call ≡ true
  pub others : List PendingCall
  pub waited : IsPermutation old.calls (call ∷ others)
  pub wait : IsPermutation new.calls (after_reply call ++ others)
  pub heard : new.heard ≡ old.heard ++ record { number = call.number; bytes = bytes } ∷ []

-- this call waits no more, and all others wait on
pub record TakesCall (call : PendingCall) (old new : Waits) : Type 0 where
  pub waited : IsPermutation old.calls (call ∷ new.calls)
  pub heard : new.heard ≡ old.heard
