use Rattle.std.proofs.Common.{sym, ap, ◌∙◌}
use Rattle.range_table.proofs.Lasts.{low_beside_some, low_last}
use Rattle.range_arena.proofs.quick.low.Goals as goal

pub returns-in-Some : goal.returns-in-Some
returns-in-Some c = c.low_beside.ensures ∙ ap (low_beside_some c.args.range.now c.args.mode) c.in-Some.ensures.last ∙ sym (low_last c.args.range.now c.args.mode c.args.runs.now.list c.args.runs.now.sorted)

pub returns-in-None : goal.returns-in-None
returns-in-None c = ap (low_beside_some c.args.range.now c.args.mode) c.in-None.ensures.last ∙ sym (low_last c.args.range.now c.args.mode c.args.runs.now.list c.args.runs.now.sorted)
