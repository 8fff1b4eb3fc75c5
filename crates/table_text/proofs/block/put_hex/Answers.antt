use Rattle.std.proofs.Common.{[], refl}
use Rattle.hex.specs.Hex.{encode_with, lower_digits}
use Rattle.local_ops.proofs.Writing.{front-next, split-next}
use Rattle.table_text.proofs.Passing.{WroteAllBut-hex, WroteAllBut-start, failed-hex}
use Rattle.table_text.proofs.block.put_hex.Goals as goal

pub loop-rest-init : goal.loop-rest-init
unfolding encode_with
loop-rest-init g c = ([], refl, WroteAllBut-start _ c.args.block.now)

pub loop-rest-preserved : goal.loop-rest-preserved
loop-rest-preserved g c =
    let before = c.loop-rest.invariant in
    front-next _ before.0 _ _ _ _ c.split_at.ensures.by_index.0 before.1
    (WroteAllBut-hex _ _ _ c.args.block.now _ _ lower_digits before.0 c.split_at.result.0.now before.2 c.in_ok-put_short_hex.ensures)

pub returns-in_err-put_short_hex : goal.returns-in_err-put_short_hex
returns-in_err-put_short_hex g c =
    let before = c.loop-rest.invariant in
    let part = c.split_at.result.0.now in
    let behind = c.split_at.result.1.now in
    failed-hex _ _ _ c.from_residual.result c.args.block.now _ _ lower_digits before.0 part behind c.args.bytes.now
    (split-next before.0 part behind c.loop-rest.rest.now _ c.split_at.ensures.by_index.0 before.1) c.from_residual.ensures.0 before.2 c.in_err-put_short_hex.ensures
