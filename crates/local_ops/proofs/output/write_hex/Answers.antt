use Rattle.std.proofs.Common.{[], refl}
use Rattle.std.proofs.KnownBytes.{Appends-nil}
use Rattle.hex.specs.Hex.{encode_with, lower_digits}
use Rattle.byte_io.proofs.Appending.{Wrote-failed}
use Rattle.local_ops.proofs.Writing.{front-next, hex-next, hex-failed, split-next}
use Rattle.local_ops.proofs.output.write_hex.Goals as goal

pub loop-rest-init : goal.loop-rest-init
unfolding encode_with
loop-rest-init g c = ([], refl, Appends-nil _)

pub loop-rest-preserved : goal.loop-rest-preserved
loop-rest-preserved g c =
    let before = c.loop-rest.invariant in
    front-next _ before.0 _ _ _ _ c.split_at.ensures.by_index.0 before.1
    (hex-next _ _ _ lower_digits before.0 c.split_at.result.0.now c.short_hex.result.now before.2 c.in_ok-write_whole.ensures c.short_hex.ensures.text)

pub returns-in_err-write_whole : goal.returns-in_err-write_whole
returns-in_err-write_whole g c =
    let before = c.loop-rest.invariant in
    let part = c.split_at.result.0.now in
    let behind = c.split_at.result.1.now in
    Wrote-failed _ _ _ _ c.from_residual.ensures.0
    (hex-failed _ _ _ lower_digits before.0 part behind c.args.bytes.now c.short_hex.result.now before.2 c.in_err-write_whole.ensures c.short_hex.ensures.text
    (split-next before.0 part behind c.loop-rest.rest.now _ c.split_at.ensures.by_index.0 before.1))
