use Rattle.std.proofs.Common.{◌≡◌, ◌∙◌, sym, refl, ap, ◌+◌, ◌*◌, take, arith}
use Rattle.std.specs.Ordering.{is_ne}
use Rattle.range_table.proofs.Spelling.{bytes_cmp, settled, tied}
use Rattle.range_table.proofs.words.order_words.Goals as goal

pub loop-word-init : goal.loop-word-init
loop-word-init c = record { level = refl }

pub returns-then-is_ne : goal.returns-then-is_ne
returns-then-is_ne c =
    let x = c.told-bytes in
    let y = c.told-others in
    let w = c.requires in
    let t = c.loop-word-test.true in
    let found = c.order_upto-found.ensures in
    found ∙ sym (settled c.args.bytes.now c.args.others.now (8 * (c.loop-word.word + 1)) (8 * c.args.words) (omega arith) (omega arith) (omega arith)
    (ap is_ne (sym found) ∙ sym c.is_ne.ensures ∙ c.if-is_ne.true))

pub loop-word-preserved : goal.loop-word-preserved
loop-word-preserved c =
    record {
      level = sym c.order_upto-found.ensures ∙ tied c.order_upto-found.result (sym c.is_ne.ensures ∙ c.if-is_ne.false);
    }

pub returns : goal.returns
returns c =
    let t = c.loop-word-test.false in
    let e = c.loop-word.auto.word-end in
    let w : c.loop-word.word ≡ c.args.words = omega arith in
    sym (ap (λ n. bytes_cmp (take (8 * n) c.args.bytes.now) (take (8 * n) c.args.others.now)) (sym w) ∙ c.loop-word.invariant.level)
