use Rattle.std.proofs.Common.{rules, tests, ap, ◌∙◌}
use Rattle.std.proofs.lemmas.Iterator.{YieldsList-from_slice}
use Rattle.std.proofs.lemmas.Iterator.Search.{any_from_yields_List}
use Rattle.book.specs.declared.entry.Entry.{Entry}
use Rattle.book.specs.Notes.{view_of_entry}
use Rattle.book.specs.Receipts.{receipt_of, same_receipt, is_noted}
use Rattle.book.proofs.Receipted.{any_found}
use Rattle.book.specs.Journal.{Book}
use Rattle.book.proofs.book.Book.check.Goals as goal

pub returns : goal.returns
returns g c =
    any_from_yields_List (λ (e : Entry). same_receipt (receipt_of (view_of_entry e)) c.args.receipt.now) _ _ c.any.result c.any.ensures.ran (YieldsList-from_slice c.self.inside.entries.list.items cc) (λ x b q k. search (rules, tests))
    ∙ any_found c.args.receipt.now c.self.inside.entries.list.items
    ∙ ap (λ (b : Book). is_noted c.args.receipt.now b.journal.notes) c.self.view_is
