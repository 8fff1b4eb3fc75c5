use Rattle.std.proofs.Common.{not, subst, sym}
use Rattle.range_table.specs.Runs.{IsRunList}
use Rattle.range_table.proofs.Tables.{IsRunList-filter}
use Rattle.range_table.proofs.sorted_runs.SortedRuns.drop_host.Goals as goal

pub invariant_of-self : goal.invariant_of-self
invariant_of-self g c = record { sorted = subst IsRunList (sym c.drop_host.ensures) (IsRunList-filter (λ r. not (g.H.Host.has c.args.host.now r.owner)) c.args.self.now.list c.args.self.now.sorted) }
