use Rattle.std.proofs.Common.{◌∙◌, ◌*◌, arith}
use Rattle.std.specs.Ordering.{ordering_then}
use Rattle.range_table.proofs.FileIds.{padded_order}
use Rattle.range_table.proofs.file.FileId.order.Goals as goal

pub returns : goal.returns
returns c =
    let m = c.min-shorter.ensures in
    let d = c.div_ceil.ensures in
    let a = c.self.invariant.few in
    let b = c.other.invariant.few in
    c.then.ensures ∙ (λ i. ordering_then (c.order_words.ensures i) (c.cmp.ensures i))
    ∙ rw (← c.self.view_is, ← c.other.view_is) (padded_order c.self.inside c.other.inside (8 * c.div_ceil.result) c.self.invariant c.other.invariant (omega arith) (omega arith))
