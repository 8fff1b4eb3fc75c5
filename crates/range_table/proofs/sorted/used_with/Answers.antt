use Rattle.std.proofs.Common.{Some, None, ◌∙◌, sym, arith}
use Rattle.range_table.proofs.Lengths.{length_cut_by}
use Rattle.range_table.proofs.sorted.used_with.Goals as goal

pub returns-in-Some-clause-count : goal.returns-in-Some-clause-count
returns-in-Some-clause-count c range runs beside rest = omega (arith, length_cut_by range runs (Some c.in-Some.field-0) (sym rest ∙ c.in-Some.is), beside)

pub returns-in-None-clause-count : goal.returns-in-None-clause-count
returns-in-None-clause-count c range runs beside rest = omega (arith, length_cut_by range runs None (sym rest ∙ c.in-None.is), beside)
