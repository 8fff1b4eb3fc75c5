-- What is sent next.
use Rattle.std.specs.Prelude.{◌≡◌, ℕ, List, Option, Some, None}
use Rattle.definitions.specs.Bytes.{Bytes}
use Rattle.definitions.specs.Hosts.{NotAsked}
use Rattle.definitions.specs.Outgoing.{Callback, next_due}
use Rattle.definitions.specs.Step as step
use Rattle.call_codec.specs.declared.records.dest.Dest.{Dest}
use Rattle.call_codec.specs.Dests.{view_of_dest}
use Rattle.book.specs.Given.{comes_to, record_of}
use Rattle.book.specs.Notes.{SendsNext, Note}
use Rattle.book.specs.Journal.{IsNext, room_of}
use Rattle.workers.specs.Holds.{Held, Rests, Adds}
use Rattle.workers.specs.declared.shared.Next.{Next}
use Rattle.workers.specs.declared.shared.Next.TheVariants.{Call, NothingDue, NoRoom}

-- the call that was due first has one entry, the newest, and nothing else happened, but perhaps that a full segment was closed before it
pub record Sends (old : Held) (next : Option _) (new : Held) : Type 0 where
  pub before : Held
  pub rests : Rests old before
  pub closed : new.closed ≡ before.closed
  pub keeps : new.keeps ≡ before.keeps
  pub sent : IsNext before.book next new.book

-- the entry sent the call of this number, to whom it is for, and these are its bytes
pub record IsSending (entry : Note) (number : ℕ) (to : Dest) (bytes : Bytes) : Type 0 where
  pub callback : Callback
  pub event : entry.event ≡ SendsNext
  pub step_result : entry.step_result ≡ comes_to step.Applied NotAsked (step.Sends number callback)
  pub is_for : view_of_dest to ≡ callback.to
  pub spells : bytes ≡ record_of (step.Sends number callback)

-- a call is sent, and a trace has its entry, too; or none is due; or one is due, and there was no room for its entry
abbrev pub IsNextOf : Held → List Note → Next → Held → List Note → Type 0
IsNextOf old told (Call number to bytes) new told' =
    Sends old (Some (number, to, bytes)) new × ((entry : Note) × IsSending entry number to bytes × Adds new entry told told')
IsNextOf old told NothingDue new told' = (next_due old.book.journal.end.world.calls ≡ None) × Rests old new × (told' ≡ told)
IsNextOf old told NoRoom new told' =
    (next_due old.book.journal.end.world.calls ≡ None → ⊥) × (room_of old.book.journal ≡ 0) × Rests old new × (told' ≡ told)
