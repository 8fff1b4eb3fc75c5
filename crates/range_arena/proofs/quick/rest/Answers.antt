use Rattle.std.proofs.Common.{sym, ap, ◌∙◌}
use Rattle.range_table.proofs.Lasts.{rest_from, right_last}
use Rattle.range_arena.proofs.quick.rest.Goals as goal

pub returns-in-Some : goal.returns-in-Some
returns-in-Some c =
    let range = c.args.range.now in
    c.rest.ensures ∙ ap (rest_from range) (sym c.in-Some.is ∙ c.last_upto.ensures.last) ∙ sym (right_last range c.args.runs.now.list c.args.runs.now.sorted)

pub returns-in-None : goal.returns-in-None
returns-in-None c =
    let range = c.args.range.now in
    ap (rest_from range) (sym c.in-None.is ∙ c.last_upto.ensures.last) ∙ sym (right_last range c.args.runs.now.list c.args.runs.now.sorted)
