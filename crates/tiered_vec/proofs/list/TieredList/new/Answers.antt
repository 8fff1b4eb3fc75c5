use Rattle.std.proofs.Common.{◌≡◌, ◌*◌, ap, ◌∙◌, arith}
use Rattle.std.specs.List.{range_with_len}
use Rattle.tiered_vec.proofs.Pieces.{first_none, first_more}
use Rattle.tiered_vec.proofs.list.TieredList.new.Goals as goal

pub loop-i-init : goal.loop-i-init
loop-i-init c = rw c.in_ok-tiers.ensures.items first_none

pub loop-i-preserved : goal.loop-i-preserved
loop-i-preserved c = first_more c.loop-i.tiers.items c.push.new.self.items c.new.result c.loop-i.i c.loop-i.invariant c.new.ensures c.in_ok-push.ensures.items

pub invariant_of-result : goal.invariant_of-result
invariant_of-result c =
    let e : c.loop-i.i ≡ 256 = (let f = c.loop-i-test.false in let a = c.loop-i.auto.i-end in omega arith) in
    record { count = c.loop-i.invariant.count ∙ e; each = c.loop-i.invariant.long }

pub returns : goal.returns
returns c =
    let e : 256 * c.loop-i.i ≡ 65536 = (let f = c.loop-i-test.false in let a = c.loop-i.auto.i-end in omega arith) in
    c.loop-i.invariant.numbers ∙ ap (range_with_len 0) e
