use Rattle.std.proofs.Common.{◌*◌, ◌+◌, arith}
use Rattle.range_table.proofs.Spelling.{upto_word}
use Rattle.range_table.proofs.words.order_upto.Goals as goal

pub returns : goal.returns
returns c =
    let x = c.told-bytes in
    let y = c.told-others in
    let w = c.requires.within in
    upto_word c.args.bytes.now c.args.others.now (8 * c.args.word) (8 * (c.args.word + 1)) c.word_at.result c.word_at-2.result c.cmp.result (omega arith) (omega arith) (omega arith)
    c.fits-bytes c.fits-others c.requires.alike c.word_at.ensures c.word_at-2.ensures c.cmp.ensures
