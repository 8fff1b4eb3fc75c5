-- The server's own calls, as they are handed over.
use Rattle.std.specs.Prelude.{◌≡◌, ◌≤◌, ℕ, List, [], ◌∷◌, ◌++◌, Some, length}
use Rattle.definitions.specs.Bytes.{Bytes}
use Rattle.call_codec.specs.declared.records.dest.Dest.{Dest}
use Rattle.book.specs.Notes.{Note}
use Rattle.book.specs.Receipts.{newest_note}
use Rattle.workers.specs.Holds.{Held}
use Rattle.workers.specs.Sending.{Sends, IsSending}

-- a call: its number, whom it is for, and its bytes
pub record Call : Type 0 where
  pub number : ℕ
  pub to : Dest
  pub bytes : Bytes

-- one hold sent this call, which was due first, and this is its entry
pub record IsSent (entry : Note) (call : Call) : Type 0 where
  pub before : Held
  pub after : Held
  pub sends : Sends before (Some (call.number, call.to, call.bytes)) after
  pub is_newest : newest_note after.book.journal.notes ≡ Some entry
  pub sent : IsSending entry call.number call.to call.bytes

-- each entry sent its call, in order
abbrev pub AreSent : List Note → List Call → Type 0
AreSent [] [] = Unit {0}
AreSent [] (c ∷ calls) = ⊥
AreSent (n ∷ entries) [] = ⊥
AreSent (n ∷ entries) (c ∷ calls) = IsSent n c × AreSent entries calls

-- what was handed over is what the trace's further entries sent, one to one and in order, and nothing else
pub record Hands (most : ℕ) (old new : List Call) (told told' : List Note) : Type 0 where
  pub calls : List Call
  pub entries : List Note
  pub sent : AreSent entries calls
  pub handed : new ≡ old ++ calls
  pub noted : told' ≡ told ++ entries
  pub few : length calls ≤ most
