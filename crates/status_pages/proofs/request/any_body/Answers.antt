use Rattle.std.proofs.Common.{sym, ◌∙◌}
use Rattle.std.proofs.lemmas.List.Folds.{list_any_at}
use Rattle.httparse.specs.Borrowed.{header_parts}
use Rattle.httparse.specs.declared.borrowed.Header.{Header}
use Rattle.status_pages.specs.Requests.{announces_body}
use Rattle.status_pages.proofs.Fields.{list_any_mapped}
use Rattle.status_pages.proofs.request.any_body.Goals as goal

pub returns-then-announces_body : goal.returns-then-announces_body
returns-then-announces_body c =
    sym (list_any_mapped announces_body header_parts c.args.fields.now
    ∙ list_any_at (λ (y : Header). announces_body (header_parts y)) c.args.fields.now c.loop-field.field-index _ c.loop-field-test.true (sym c.announces_body.ensures ∙ c.if-announces_body.true))
