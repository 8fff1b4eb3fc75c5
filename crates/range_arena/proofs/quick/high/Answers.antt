use Rattle.std.proofs.Common.{◌≡◌, ◌+◌, sym, ap, ◌∙◌, arith}
use Rattle.range_table.specs.Parts.{last_started}
use Rattle.range_table.proofs.Lasts.{high_beside_some, high_last}
use Rattle.range_arena.proofs.quick.high.Goals as goal

pub returns-in-Some : goal.returns-in-Some
returns-in-Some c =
    let range = c.args.range.now.setting in
    let e : range.last + 1 + 1 ≡ range.last + 2 = omega arith in
    c.high_beside.ensures ∙ ap (high_beside_some range c.args.mode) (c.in-Some.ensures.last ∙ ap (λ n. last_started range n c.args.runs.now.list) e) ∙ sym (high_last range c.args.mode c.args.runs.now.list c.args.runs.now.sorted)

pub returns-in-None : goal.returns-in-None
returns-in-None c =
    let range = c.args.range.now.setting in
    let e : range.last + 1 + 1 ≡ range.last + 2 = omega arith in
    ap (high_beside_some range c.args.mode) (c.in-None.ensures.last ∙ ap (λ n. last_started range n c.args.runs.now.list) e) ∙ sym (high_last range c.args.mode c.args.runs.now.list c.args.runs.now.sorted)
