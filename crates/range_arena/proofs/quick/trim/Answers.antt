use Rattle.std.proofs.Common.{set, sym, ap, ◌∙◌, arith}
use Rattle.range_table.specs.declared.run.Run.{Run}
use Rattle.range_table.proofs.Cuts.{trim_bounds, trim_first}
use Rattle.range_table.proofs.Lasts.{trims_none}
use Rattle.range_arena.proofs.OwnerInWay.{ordered_in}
use Rattle.range_arena.proofs.OwnersRuns.{trims_at, trims_not, no_index}
use Rattle.range_arena.proofs.quick.trim.Goals as goal

pub end_at-requires-clause-begun : goal.end_at-requires-clause-begun
end_at-requires-clause-begun c =
    let range = c.args.range.now in
    let x = c.in-Some.run' in
    let e = ap (λ (r : Run). r.last) c.trim.ensures in
    let b = trim_bounds range x (ordered_in c.args.runs.now.list x c.args.runs.now.sorted c.in-Some.ensures.stands) in
    omega (arith, trim_first range x)

pub returns-then-left-run : goal.returns-then-left-run
returns-then-left-run c =
    let rs = c.args.runs.now.list in
    let x = c.in-Some.run' in
    let m = c.end_at.ensures in
    m.3 ∙ ap (λ (r : Run). set rs m.0 (record x { last = r.last })) c.trim.ensures ∙ trims_at c.args.range.now rs m.0 x c.args.runs.now.sorted m.1 m.2 (sym c.in-Some.ensures.last)

pub returns-else-left-run : goal.returns-else-left-run
returns-else-left-run c =
    let x = c.in-Some.run' in
    let e = ap (λ (r : Run). r.last) c.trim.ensures in
    let l = c.if-left-run.false in
    trims_not c.args.range.now c.args.runs.now.list x c.args.runs.now.sorted c.in-Some.ensures.stands (sym c.in-Some.ensures.last) (omega arith)

pub returns-in_default : goal.returns-in_default
returns-in_default c = sym (trims_none c.args.range.now c.args.runs.now.list (no_index c.args.range.now c.args.range.now.first c.args.runs.now.list (sym c.last_before.ensures.last ∙ c.in_default.is)))
