use Rattle.std.proofs.Common.{◌≡◌, ◌<◌, length, get_or, subst, sym, ap, ◌∙◌, arith}
use Rattle.std.proofs.lemmas.List.{get_or_default}
use Rattle.range_arena.specs.Reaches.{Covers}
use Rattle.range_table.proofs.Searches.{by_order}
use Rattle.range_arena.proofs.stretches.looked_at.Goals as goal

pub loop-at-preserved : goal.loop-at-preserved
loop-at-preserved c =
    let at = c.loop-at.at in
    let v = c.loop-at.invariant in
    let e = c.with-fresh.ensures in
    let rs = c.args.runs.now in
    let x = c.get.result.now in
    let w : at < length rs = omega arith in
    record {
      start = e.start ∙ v.start;
      end = e.end ∙ v.end;
      seen = λ i r from below is.
          by_order i at
          (λ l. e.others r (v.seen i r from l is))
          (λ l. let n : i ≡ at = omega arith in
          let same : x ≡ r = c.get.ensures ∙ (get_or_default rs at x r w ∙ (ap (λ j. get_or rs j r) (sym n) ∙ sym is)) in
          subst (Covers c.with-fresh.result) same e.run);
    }
