use Rattle.std.proofs.Common.{◌∙◌, ap}
use Rattle.std.specs.Ordering.{is_eq}
use Rattle.range_table.proofs.Files.{file_cmp_same}
use Rattle.range_table.proofs.file.FileId.is_same.Goals as goal

pub returns : goal.returns
returns c = c.is_eq.ensures ∙ ap is_eq c.order.ensures ∙ file_cmp_same c.args.self.now c.args.other.now
