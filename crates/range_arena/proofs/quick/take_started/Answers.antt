use Rattle.std.proofs.Common.{sym, ap, ◌∙◌}
use Rattle.std.specs.List.{filter}
use Rattle.range_table.proofs.Edits.{stays}
use Rattle.range_arena.proofs.OwnersRuns.{none_starts, none_starts_last, last_starts, filter_gone}
use Rattle.range_arena.proofs.quick.take_started.Goals as goal

pub returns-in_default : goal.returns-in_default
returns-in_default c = none_starts c.args.range.now c.loop.runs.list (sym c.last_upto.ensures.last ∙ c.in_default.is) ∙ c.loop.invariant

pub returns-then-run-range : goal.returns-then-run-range
returns-then-run-range c = none_starts_last c.args.range.now c.loop.runs.list c.in-Some.run' c.loop.runs.sorted (sym c.last_upto.ensures.last ∙ c.in-Some.is) c.if-run-range.true ∙ c.loop.invariant

pub loop-preserved : goal.loop-preserved
loop-preserved c =
    let range = c.args.range.now in
    let runs = c.loop.runs.list in
    let x = c.in-Some.run' in
    let m = c.remove.ensures in
    ap (filter (stays range)) m.3
    ∙ filter_gone range runs m.0 x m.1 m.2 (last_starts range runs x c.loop.runs.sorted (sym c.last_upto.ensures.last ∙ c.in-Some.is) c.if-run-range.false)
    ∙ c.loop.invariant
