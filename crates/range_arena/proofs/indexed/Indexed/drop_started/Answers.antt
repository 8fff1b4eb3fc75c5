use Rattle.std.proofs.Common.{not, ap, ◌∙◌}
use Rattle.std.specs.List.{filter}
use Rattle.range_table.specs.Runs.{starts_in}
use Rattle.range_arena.proofs.Seats.{IsIndexed-filter}
use Rattle.range_table.specs.declared.sorted_runs.SortedRuns.{SortedRuns}
use Rattle.range_arena.proofs.indexed.Indexed.drop_started.Goals as goal

pub invariant_of-self : goal.invariant_of-self
invariant_of-self c =
    IsIndexed-filter c.self.inside c.self.invariant (λ r. not (starts_in c.args.range.now r)) _ c.drop_started.ensures c.drop_started-2.ensures c.rebuild.ensures

pub returns : goal.returns
returns c = c.drop_started.ensures ∙ ap (filter (λ r. not (starts_in c.args.range.now r))) (ap (λ (s : SortedRuns). s.list) c.self.view_is)
