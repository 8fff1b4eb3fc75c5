-- What a receipt tells of an entry.
use Rattle.std.specs.Prelude.{◌≡◌, Some, ℕ, Bool, true, false, ◌&&◌, ◌==◌, cond, not, List, ◌-◌, length, slice_get, Option, option_map}
use Rattle.definitions.specs.Bytes.{Bytes, same_bytes, is_any}
use Rattle.definitions.specs.Step.{Peer, Given}
use Rattle.book.specs.Given.{StepResult, record_of}
use Rattle.book.specs.Journal.{Book, next_of, Enters}
use Rattle.book.specs.Notes.{JournalEvent, Takes, SendsNext, HearsAnswer, AsksLine, FallsSilent, GraceEnds, BeginsAnew, Note}

-- the entry's number, its event, and the record that its client got
pub record Receipt : Type 0 where
  pub number : ℕ
  pub event : JournalEvent
  pub reply : Bytes

abbrev pub receipt_of : Note → Receipt
receipt_of n = record { number = n.number; event = n.event; reply = record_of n.step_result.given }

abbrev pub newest_note : List Note → Option Note
newest_note notes = slice_get notes (length notes - 1)

abbrev pub newest_event : List Note → Option JournalEvent
newest_event notes = option_map (λ (n : Note). n.event) (newest_note notes)

abbrev pub newest_given : List Note → Option Given
newest_given notes = option_map (λ (n : Note). n.step_result.given) (newest_note notes)

abbrev pub newest_receipt : List Note → Option Receipt
newest_receipt notes = option_map receipt_of (newest_note notes)

abbrev pub same_peer : Peer → Peer → Bool
same_peer a b = same_bytes a.address b.address && cond a.local b.local (not b.local)

abbrev pub same_event : JournalEvent → JournalEvent → Bool
same_event (Takes peer asked) (Takes other bytes) = same_peer peer other && same_bytes asked bytes
same_event SendsNext SendsNext = true
same_event (HearsAnswer bytes) (HearsAnswer others) = same_bytes bytes others
same_event (AsksLine l line) (AsksLine m other) = (l == m) && same_bytes line other
same_event (FallsSilent number) (FallsSilent other) = number == other
same_event GraceEnds GraceEnds = true
same_event BeginsAnew BeginsAnew = true
same_event _ _ = false

abbrev pub same_receipt : Receipt → Receipt → Bool
same_receipt a b = (a.number == b.number) && (same_event a.event b.event && same_bytes a.reply b.reply)

-- the receipt's number stands among the entries, with its call and its reply
abbrev pub is_noted : Receipt → List Note → Bool
is_noted r notes = is_any (λ (n : Note). same_receipt (receipt_of n) r) notes

-- what entered last is the newest entry
abbrev pub NewestLaw : Type 0
NewestLaw =
    (old new : Book) (event : JournalEvent) (step_result : StepResult) → Enters old event step_result new
    → newest_note new.journal.notes ≡ Some (record { number = next_of old.journal; event = event; step_result = step_result })
