use Rattle.std.proofs.Common.{not, ap, ◌∙◌}
use Rattle.std.specs.List.{filter}
use Rattle.range_arena.proofs.Seats.{IsIndexed-filter}
use Rattle.range_table.specs.declared.sorted_runs.SortedRuns.{SortedRuns}
use Rattle.range_arena.proofs.indexed.Indexed.drop_host.Goals as goal

pub invariant_of-self : goal.invariant_of-self
invariant_of-self g c =
    IsIndexed-filter c.self.inside c.self.invariant (λ r. not (g.H.Host.has c.args.host.now r.owner)) _ c.drop_host.ensures c.drop_host-2.ensures c.rebuild.ensures

pub returns : goal.returns
returns g c = c.drop_host.ensures ∙ ap (filter (λ r. not (g.H.Host.has c.args.host.now r.owner))) (ap (λ (s : SortedRuns). s.list) c.self.view_is)
