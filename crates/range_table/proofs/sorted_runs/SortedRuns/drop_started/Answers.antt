use Rattle.std.proofs.Common.{not, subst, sym}
use Rattle.range_table.specs.Runs.{IsRunList, starts_in}
use Rattle.range_table.proofs.Tables.{IsRunList-filter}
use Rattle.range_table.proofs.sorted_runs.SortedRuns.drop_started.Goals as goal

pub invariant_of-self : goal.invariant_of-self
invariant_of-self c = record { sorted = subst IsRunList (sym c.drop_started.ensures) (IsRunList-filter (λ r. not (starts_in c.args.range.now r)) c.args.self.now.list c.args.self.now.sorted) }
