use Rattle.std.proofs.Common.{sym, ◌∙◌}
use Rattle.std.proofs.lemmas.List.Folds.{list_any_at}
use Rattle.httparse.specs.Borrowed.{header_parts}
use Rattle.httparse.specs.declared.borrowed.Header.{Header}
use Rattle.status_pages.specs.Requests.{is_host}
use Rattle.status_pages.proofs.Fields.{list_any_mapped}
use Rattle.status_pages.proofs.request.any_host.Goals as goal

pub returns-then-is_host : goal.returns-then-is_host
returns-then-is_host c =
    sym (list_any_mapped is_host header_parts c.args.fields.now
    ∙ list_any_at (λ (y : Header). is_host (header_parts y)) c.args.fields.now c.loop-field.field-index _ c.loop-field-test.true (sym c.is_host.ensures ∙ c.if-is_host.true))
