use Rattle.std.proofs.Common.{length, ap, ◌∙◌}
use Rattle.std.specs.List.{filter}
use Rattle.range_table.specs.Runs.{starts_in}
use Rattle.range_table.specs.declared.run.Mode.TheVariants.{Shared}
use Rattle.range_arena.proofs.Started.{length_started}
use Rattle.range_table.specs.declared.sorted_runs.SortedRuns.{SortedRuns}
use Rattle.range_arena.proofs.indexed.Indexed.started.Goals as goal

pub returns : goal.returns
returns c =
    let i = c.self.inside in
    let k = c.self.invariant in
    let before = rw c.run.ensures at c.owned_seat-before.ensures.place in
    c.saturating_sub.ensures
    ∙ length_started c.args.range.now Shared i.runs.list i.owned c.owned_seat-before.result c.owned_past-past.result i.runs.sorted k.sorted k.same c.owned_past-past.ensures.within before c.owned_past-past.ensures.place
    ∙ ap (λ rs. length (filter (starts_in c.args.range.now) rs)) (ap (λ (s : SortedRuns). s.list) c.self.view_is)
