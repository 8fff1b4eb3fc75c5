use Rattle.std.proofs.Common.{◌∙◌}
use Rattle.range_table.specs.Settings.{conflicts}
use Rattle.range_table.proofs.InWay.{any_in_part, conflicts_on}
use Rattle.range_table.proofs.sorted.is_blocked.Goals as goal

pub returns : goal.returns
returns c = c.any_in_way.ensures ∙ any_in_part c.args.wanted.now.file (conflicts c.args.wanted.now) (conflicts_on c.args.wanted.now) c.args.runs.now.list c.part_of-part.result.begin c.part_of-part.result.end c.part_of-part.ensures
