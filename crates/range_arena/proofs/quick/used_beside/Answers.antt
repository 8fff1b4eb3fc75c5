use Rattle.std.proofs.Common.{ap, arith, length}
use Rattle.range_table.proofs.Lengths.{length_parted}
use Rattle.range_table.specs.declared.sorted_runs.SortedRuns.{SortedRuns}
use Rattle.range_arena.proofs.quick.used_beside.Goals as goal

pub overflow_sub-result : goal.overflow_sub-result
overflow_sub-result c = omega (arith, length_parted c.args.range.now c.args.runs.now.list, ap (λ (s : SortedRuns). length s.list) c.sorted.ensures)

pub returns-clause-count : goal.returns-clause-count
returns-clause-count c = omega (arith, length_parted c.args.range.now c.args.runs.now.list, ap (λ (s : SortedRuns). length s.list) c.sorted.ensures)
