use Rattle.std.proofs.Common.{sym, ◌∙◌, true≢false}
use Rattle.std.proofs.lemmas.Slice.Eq.{bytes_eq-Decides}
use Rattle.local_ops.proofs.Numbers.{not_parsed, not_printed, printed}
use Rattle.config.proofs.values.read_number.Goals as goal

pub returns-in_default : goal.returns-in_default
returns-in_default c = sym (not_parsed c.args.text.now c.parse.result c.in_default.field-0 c.parse.ensures.value.0 c.in_default.is)

pub returns-then-eq : goal.returns-then-eq
returns-then-eq c =
    let same = (bytes_eq-Decides c.format.result.now c.args.text.now).0 (sym c.eq.ensures ∙ c.if-eq.true) in
    sym (printed c.args.text.now c.parse.result c.in-Ok.number c.parse.ensures.value.0 c.in-Ok.is (sym c.format.ensures.text ∙ same))

pub returns-else-eq : goal.returns-else-eq
returns-else-eq c =
    sym (not_printed c.args.text.now c.parse.result c.in-Ok.number c.parse.ensures.value.0 c.in-Ok.is (λ same.
    let equal = (bytes_eq-Decides c.format.result.now c.args.text.now).1 (c.format.ensures.text ∙ same) in
    true≢false (sym equal ∙ (sym c.eq.ensures ∙ c.if-eq.false))))
