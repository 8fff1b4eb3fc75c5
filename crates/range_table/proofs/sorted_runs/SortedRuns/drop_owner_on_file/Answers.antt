use Rattle.std.proofs.Common.{not, subst, sym}
use Rattle.range_table.specs.Runs.{IsRunList, is_of}
use Rattle.range_table.proofs.Tables.{IsRunList-filter}
use Rattle.range_table.proofs.sorted_runs.SortedRuns.drop_owner_on_file.Goals as goal

pub invariant_of-self : goal.invariant_of-self
invariant_of-self c = record { sorted = subst IsRunList (sym c.drop_owner_on_file.ensures) (IsRunList-filter (λ r. not (is_of r c.args.file.now c.args.owner)) c.args.self.now.list c.args.self.now.sorted) }
