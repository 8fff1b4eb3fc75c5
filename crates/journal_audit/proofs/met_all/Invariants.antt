use Rattle.std.proofs.Common.{◌≡◌, Some, map, take}
use Rattle.book.specs.Notes.{view_of_entry}
use Rattle.journal_audit.specs.Audits.{meet_all}
use Rattle.journal_audit.proofs.met_all.Given as goal

abbrev pub invariant-loop-entry : goal.invariant-loop-entry
invariant-loop-entry l = meet_all l.fn.from l.fn.receipts (map view_of_entry (take l.entry-index l.entries)) ≡ Some (l.last, l.left)
