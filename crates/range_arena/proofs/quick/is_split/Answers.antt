use Rattle.std.proofs.Common.{sym, ap, ◌∙◌}
use Rattle.range_table.proofs.Lasts.{splits_some, split_last}
use Rattle.range_arena.proofs.quick.is_split.Goals as goal

pub returns-in-Some : goal.returns-in-Some
returns-in-Some c = c.splits.ensures ∙ ap (splits_some c.args.range.now.setting) c.in-Some.ensures.last ∙ sym (split_last c.args.range.now.setting c.args.runs.now.list c.args.range.now.ordered c.args.runs.now.sorted)

pub returns-in-None : goal.returns-in-None
returns-in-None c = ap (splits_some c.args.range.now.setting) c.in-None.ensures.last ∙ sym (split_last c.args.range.now.setting c.args.runs.now.list c.args.range.now.ordered c.args.runs.now.sorted)
