-- When receipts and segments agree.
use Rattle.std.specs.Prelude.{◌≡◌, ◌==◌, ℕ, suc, Bool, true, false, cond, Option, Some, None, List, [], ◌∷◌}
use Rattle.book.specs.Notes.{Note, is_take}
use Rattle.book.specs.Journal.{Journal}
use Rattle.book.specs.Histories.{notes_of}
use Rattle.book.specs.Receipts.{Receipt, receipt_of, same_receipt}

-- numbers from the first on, without a gap
abbrev pub RunOn : ℕ → List Note → Type 0
RunOn first [] = Unit {0}
RunOn first (n ∷ notes) = (n.number ≡ first) × RunOn (suc first) notes

-- the receipts of the entries that took a record, in order
abbrev pub receipts_of : List Note → List Receipt
receipts_of [] = []
receipts_of (n ∷ notes) = cond (is_take n.event) (receipt_of n ∷ receipts_of notes) (receipts_of notes)

-- the numbers begin with 1 and run on, and these are the receipts of the entries that took a record, each once
pub record Agrees (segments : List Journal) (receipts : List Receipt) : Type 0 where
  pub runs_on : RunOn 1 (notes_of segments)
  pub each_once : receipts ≡ receipts_of (notes_of segments)

-- ---- receipts by number, and entries in order

-- the entry's receipt is the first of those that are left, where it took a record
abbrev pub taken_from : List Receipt → Note → Bool → Option (ℕ × List Receipt)
taken_from left n false = Some (n.number, left)
taken_from [] n true = None
taken_from (r ∷ rest) n true = cond (same_receipt (receipt_of n) r) (Some (n.number, rest)) None

-- the entry that follows the last number is met: the number, and the receipts that are left
abbrev pub meet : ℕ → List Receipt → Note → Option (ℕ × List Receipt)
meet last left n = cond (n.number == suc last) (taken_from left n (is_take n.event)) None

abbrev pub meet_all : ℕ → List Receipt → List Note → Option (ℕ × List Receipt)
meet_all last left [] = Some (last, left)
meet_all last left (n ∷ notes) = elim (meet last left n) [ None ↦ None | Some at ↦ meet_all at.0 at.1 notes ]
