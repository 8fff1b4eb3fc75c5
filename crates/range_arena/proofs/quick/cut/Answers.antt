use Rattle.std.proofs.Common.{◌∙◌, ap, sym}
use Rattle.range_table.proofs.Lasts.{rest_from, right_last}
use Rattle.range_arena.proofs.Filled.{cut_filled}
use Rattle.range_arena.proofs.Untouched.{cut_nothing}
use Rattle.range_arena.proofs.quick.cut.Goals as goal

pub cut_to-requires-clause-rest : goal.cut_to-requires-clause-rest
cut_to-requires-clause-rest c =
    let range = c.args.range.now in
    c.rest.ensures ∙ ap (rest_from range) (sym c.in-Some.is ∙ c.last_upto.ensures.last) ∙ sym (right_last range c.args.runs.now.list c.args.runs.now.sorted)

pub returns-in_default : goal.returns-in_default
returns-in_default c = cut_nothing c.args.range.now c.args.runs.now.list c.requires.ordered (sym c.last_upto.ensures.last ∙ c.in_default.is)

pub returns-then-run-range-2 : goal.returns-then-run-range-2
returns-then-run-range-2 c =
    let m = c.remove.ensures in
    m.3 ∙ cut_filled c.args.range.now c.args.runs.now.list m.0 c.in-Some.run' c.args.runs.now.sorted (sym c.last_upto.ensures.last ∙ c.in-Some.is) m.1 m.2 c.if-run-range.true c.if-run-range-2.true
