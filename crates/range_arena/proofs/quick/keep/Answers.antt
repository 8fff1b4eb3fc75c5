use Rattle.std.proofs.Common.{map, ap, ◌∙◌}
use Rattle.range_table.specs.Runs.{trim}
use Rattle.range_arena.proofs.OwnersRuns.{kept_by}
use Rattle.range_arena.proofs.quick.keep.Goals as goal

pub returns : goal.returns
returns c = c.trim.ensures ∙ ap (map (trim c.args.range.now)) c.take_started.ensures ∙ kept_by c.args.range.now c.args.runs.now.list
