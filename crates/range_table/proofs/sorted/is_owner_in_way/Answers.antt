use Rattle.std.proofs.Common.{◌∙◌}
use Rattle.range_table.specs.Settings.{is_against}
use Rattle.range_table.proofs.InWay.{any_in_part, against_on}
use Rattle.range_table.proofs.sorted.is_owner_in_way.Goals as goal

pub returns : goal.returns
returns c = c.any_against.ensures ∙ any_in_part c.args.wanted.now.file (is_against c.args.owner c.args.wanted.now) (against_on c.args.owner c.args.wanted.now) c.args.runs.now.list c.part_of-part.result.begin c.part_of-part.result.end c.part_of-part.ensures
