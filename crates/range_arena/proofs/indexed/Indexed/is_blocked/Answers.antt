use Rattle.std.proofs.Common.{ap, ◌∙◌}
use Rattle.std.specs.List.{list_any}
use Rattle.range_table.specs.Settings.{conflicts}
use Rattle.range_arena.proofs.Firsts.{first_blocks}
use Rattle.range_table.specs.declared.sorted_runs.SortedRuns.{SortedRuns}
use Rattle.range_arena.proofs.indexed.Indexed.is_blocked.Goals as goal

pub returns : goal.returns
returns c =
    let i = c.self.inside in
    let wanted = c.args.wanted.now in
    let part = c.part_upto-part in
    let first = c.first_in_way in
    first_blocks wanted i.runs.list part.result.begin first.result part.result.end part.ensures.front first.ensures.from first.ensures.clear first.ensures.upto part.ensures.within part.ensures.place first.ensures.found
    ∙ ap (list_any (conflicts wanted)) (ap (λ (s : SortedRuns). s.list) c.self.view_is)
