use Rattle.std.proofs.Common.{sym, ◌∙◌}
use Rattle.std.proofs.lemmas.List.Folds.{list_any_at}
use Rattle.httparse.specs.Borrowed.{header_parts}
use Rattle.httparse.specs.declared.borrowed.Header.{Header}
use Rattle.status_pages.specs.Requests.{ends_connection}
use Rattle.status_pages.proofs.Fields.{list_any_mapped}
use Rattle.status_pages.proofs.request.any_end.Goals as goal

pub returns-then-ends_connection : goal.returns-then-ends_connection
returns-then-ends_connection c =
    sym (list_any_mapped ends_connection header_parts c.args.fields.now
    ∙ list_any_at (λ (y : Header). ends_connection (header_parts y)) c.args.fields.now c.loop-field.field-index _ c.loop-field-test.true (sym c.ends_connection.ensures ∙ c.if-ends_connection.true))
