use Rattle.std.proofs.Common.{◌+◌, arith, sym, ap, ◌∙◌}
use Rattle.std.proofs.lemmas.Grind.{common_steps}
use Rattle.std.proofs.lemmas.List.{take_more}
use Rattle.book.proofs.kept.copies_of.Goals as goal

pub loop-callback-init : goal.loop-callback-init
loop-callback-init c = record {
  callbacks = c.in_ok-copies.ensures.items;
  within = omega arith;
  len = c.in_ok-copies.ensures.len;
  room = grind (arith, common_steps);
}

pub loop-callback-preserved : goal.loop-callback-preserved
loop-callback-preserved c =
    let k = c.loop-callback.invariant in
    let u = c.loop-callback-test.true in
    let e = c.push_reserved.ensures in
    let one = c.in_ok-copy.ensures ∙ c.callback-item.is in
    record {
      callbacks = rw (e.items, k.callbacks, one) (sym (take_more c.args.callbacks.now c.loop-callback.callback-index c.callback-item.result u));
      within = omega arith;
      len = e.len ∙ ap (λ n. n + 1) k.len;
      room = rw e.capacity k.room;
    }

pub push_reserved-requires : goal.push_reserved-requires
push_reserved-requires c =
    let k = c.loop-callback.invariant in
    let n = k.len in
    let r = k.room in
    let u = c.loop-callback-test.true in
    omega arith
