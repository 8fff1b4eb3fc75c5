use Rattle.std.proofs.Common.{sym, ◌∙◌, true≢false}
use Rattle.std.proofs.lemmas.Slice.Eq.{bytes_eq-Decides}
use Rattle.local_ops.proofs.Numbers.{not_utf8, not_parsed, not_printed, printed}
use Rattle.local_ops.proofs.fields.read_number.Goals as goal

pub returns-in_default : goal.returns-in_default
returns-in_default c = not_utf8 c.args.field.now c.in_default.ensures.cases.0

pub returns-in_default-parse : goal.returns-in_default-parse
returns-in_default-parse c =
    let parses = rw c.in-Ok.ensures.cases.0 at c.parse.ensures.value.0 in
    not_parsed c.args.field.now c.parse.result c.in_default-parse.field-0 parses c.in_default-parse.is

pub returns-then-eq : goal.returns-then-eq
returns-then-eq c =
    let parses = rw c.in-Ok.ensures.cases.0 at c.parse.ensures.value.0 in
    let same = (bytes_eq-Decides c.as_bytes.result.now c.args.field.now).0 (sym c.eq.ensures ∙ c.if-eq.true) in
    printed c.args.field.now c.parse.result c.in-Ok-parse.number parses c.in-Ok-parse.is (sym c.format.ensures.text ∙ (sym c.as_bytes.ensures.value ∙ same))

pub returns-else-eq : goal.returns-else-eq
returns-else-eq c =
    let parses = rw c.in-Ok.ensures.cases.0 at c.parse.ensures.value.0 in
    not_printed c.args.field.now c.parse.result c.in-Ok-parse.number parses c.in-Ok-parse.is (λ same.
    let equal = (bytes_eq-Decides c.as_bytes.result.now c.args.field.now).1 (c.as_bytes.ensures.value ∙ (c.format.ensures.text ∙ same)) in
    true≢false (sym equal ∙ (sym c.eq.ensures ∙ c.if-eq.false)))
