-- Whether a receipt is of one of these entries.
use Rattle.std.proofs.Common.{◌≡◌, List, map, refl}
use Rattle.std.specs.Prelude.{◌||◌}
use Rattle.std.specs.List.{list_any}
use Rattle.std.proofs.lemmas.List.Recursion.{same_from_clauses}
use Rattle.book.specs.declared.entry.Entry.{Entry}
use Rattle.book.specs.Notes.{view_of_entry}
use Rattle.book.specs.Receipts.{Receipt, receipt_of, same_receipt, is_noted}

pub any_found : (r : Receipt) (entries : List Entry) → list_any (λ e. same_receipt (receipt_of (view_of_entry e)) r) entries ≡ is_noted r (map view_of_entry entries)
any_found r entries =
    same_from_clauses (list_any (λ e. same_receipt (receipt_of (view_of_entry e)) r)) (λ (es : List Entry). is_noted r (map view_of_entry es)) (λ (e : Entry) b. same_receipt (receipt_of (view_of_entry e)) r || b) refl (λ _ _. refl) (λ _ _. refl) entries
