use Rattle.std.proofs.Common.{◌≡◌, Some, take}
use Rattle.book.specs.Histories.{notes_of}
use Rattle.journal_audit.specs.Audits.{meet_all}
use Rattle.journal_audit.proofs.follow.Given as goal

abbrev pub invariant-loop-segment : goal.invariant-loop-segment
invariant-loop-segment g l = meet_all 0 l.fn.receipts (notes_of (take l.segment-index l.segments)) ≡ Some (l.last, l.left)
