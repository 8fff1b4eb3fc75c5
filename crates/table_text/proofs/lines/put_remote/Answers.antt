use Rattle.std.proofs.Common.{[], ◌∷◌, ◌++◌, refl, subst, w32, ◌∙◌, append_assoc}
use Rattle.std.specs.Prelude.{ℤ}
use Rattle.std.proofs.lemmas.Int.{to_z-of_z}
use Rattle.std.specs.Fmt.{signed_decimal}
use Rattle.hex.specs.Hex.{encode_lower}
use Rattle.byte_io.specs.Written.{WroteFront}
use Rattle.table_text.specs.Blocks.{WroteAllBut}
use Rattle.local_ops.proofs.Writing.{remote_text}
use Rattle.table_text.proofs.Passing.{WroteAllBut-then, Passed-last, failed-first, failed-then}
use Rattle.table_text.proofs.lines.put_remote.Goals as goal

pub returns-in_err-put_parts : goal.returns-in_err-put_parts
returns-in_err-put_parts g c =
    failed-first _ _ c.from_residual.result c.args.block.now (104 ∷ []) _ _ _ refl c.from_residual.ensures.0 c.in_err-put_parts.ensures

pub returns-in_err-put_hex : goal.returns-in_err-put_hex
returns-in_err-put_hex g c =
    failed-then _ _ _ c.from_residual-in_err-put_hex.result c.args.block.now (104 ∷ []) _ (encode_lower c.args.name.now) (47 ∷ (signed_decimal c.args.svid ++ (47 ∷ encode_lower c.args.oh.now))) _ _
    refl c.from_residual-in_err-put_hex.ensures.0 c.in_ok-put_parts.ensures c.in_err-put_hex.ensures

pub returns-in_err-put_svid : goal.returns-in_err-put_svid
returns-in_err-put_svid g c =
    let name = encode_lower c.args.name.now in
    let oh = encode_lower c.args.oh.now in
    let P : ℤ → Type 0 = λ z. WroteFront (g.W.Write.contents c.put_hex.new.writer) (g.W.Write.contents c.put_svid.new.writer) (c.put_hex.new.block ++ 47 ∷ (signed_decimal z ++ 47 ∷ [])) in
    failed-then _ _ _ c.from_residual-in_err-put_svid.result c.args.block.now (104 ∷ name) _ (47 ∷ (signed_decimal c.args.svid ++ 47 ∷ [])) oh _ _ (remote_text name (signed_decimal c.args.svid) oh)
    c.from_residual-in_err-put_svid.ensures.0 (WroteAllBut-then _ _ _ c.args.block.now (104 ∷ []) _ name _ c.in_ok-put_parts.ensures c.in_ok-put_hex.ensures)
    (subst P (to_z-of_z w32 c.args.svid c.ranges.svid) c.in_err-put_svid.ensures)

pub returns : goal.returns
returns g c =
    let name = encode_lower c.args.name.now in
    let svid = signed_decimal c.args.svid in
    let oh = encode_lower c.args.oh.now in
    let shown = 47 ∷ (svid ++ 47 ∷ []) in
    let P : ℤ → Type 0 = λ z. WroteAllBut (g.W.Write.contents c.put_hex.new.writer) (g.W.Write.contents c.put_svid.new.writer) c.put_svid.new.block (c.put_hex.new.block ++ 47 ∷ (signed_decimal z ++ 47 ∷ [])) in
    Passed-last _ _ _ c.put_hex-2.result c.args.block.now ((104 ∷ name) ++ shown) _ oh _ _ (append_assoc (104 ∷ name) shown oh ∙ remote_text name svid oh)
    (WroteAllBut-then _ _ _ c.args.block.now (104 ∷ name) _ shown _
    (WroteAllBut-then _ _ _ c.args.block.now (104 ∷ []) _ name _ c.in_ok-put_parts.ensures c.in_ok-put_hex.ensures) (subst P (to_z-of_z w32 c.args.svid c.ranges.svid) c.in_ok-put_svid.ensures))
    c.put_hex-2.ensures
