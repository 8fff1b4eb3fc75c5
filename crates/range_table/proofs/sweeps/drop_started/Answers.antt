use Rattle.std.proofs.Common.{ap, ◌∙◌, arith}
use Rattle.std.proofs.lemmas.List.{take_all}
use Rattle.std.specs.List.{filter}
use Rattle.range_table.proofs.Edits.{stays}
use Rattle.range_table.proofs.sweeps.drop_started.Goals as goal

pub returns : goal.returns
returns c =
    let n = c.len-len.ensures.len in
    c.truncate.ensures ∙ c.gather-kept.ensures.kept ∙ ap (filter (stays c.args.range.now)) (take_all c.len-len.result c.args.runs.now (omega arith))
