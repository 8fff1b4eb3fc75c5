use Rattle.std.proofs.Common.{List, ℕ, [], ◌∷◌, ◌++◌, refl, subst, w32}
use Rattle.std.specs.Prelude.{ℤ}
use Rattle.std.proofs.lemmas.Int.{to_z-of_z}
use Rattle.std.specs.Io.KnownBytes.{Appends}
use Rattle.std.specs.Fmt.{signed_decimal}
use Rattle.std.proofs.KnownBytes.{Appends-trans}
use Rattle.hex.specs.Hex.{encode_lower}
use Rattle.byte_io.specs.Written.{Wrote, WroteFront}
use Rattle.byte_io.proofs.Appending.{Wrote-after}
use Rattle.local_ops.proofs.Writing.{failed-first, failed-then, remote_text}
use Rattle.local_ops.proofs.answer.write_remote.Goals as goal

pub returns-in_err-write_parts : goal.returns-in_err-write_parts
returns-in_err-write_parts g c = failed-first _ _ _ (104 ∷ []) _ _ refl c.from_residual.ensures.0 c.in_err-write_parts.ensures

pub returns-in_err-write_hex : goal.returns-in_err-write_hex
returns-in_err-write_hex g c =
    failed-then _ _ _ _ (104 ∷ []) (encode_lower c.args.name.now) (47 ∷ (signed_decimal c.args.svid ++ (47 ∷ encode_lower c.args.oh.now))) _ refl
    c.from_residual-in_err-write_hex.ensures.0 c.in_ok-write_parts.ensures c.in_err-write_hex.ensures

pub returns-in_err-write_svid : goal.returns-in_err-write_svid
returns-in_err-write_svid g c =
    let name = encode_lower c.args.name.now in
    let oh = encode_lower c.args.oh.now in
    let P : ℤ → Type 0 = λ z. WroteFront (g.W.Write.contents c.write_hex.new.writer) (g.W.Write.contents c.write_svid.new.writer) (47 ∷ (signed_decimal z ++ 47 ∷ [])) in
    failed-then _ _ _ _ (104 ∷ name) (47 ∷ (signed_decimal c.args.svid ++ 47 ∷ [])) oh _ (remote_text name (signed_decimal c.args.svid) oh)
    c.from_residual-in_err-write_svid.ensures.0 (Appends-trans _ _ _ (104 ∷ []) name c.in_ok-write_parts.ensures c.in_ok-write_hex.ensures)
    (subst P (to_z-of_z w32 c.args.svid c.ranges.svid) c.in_err-write_svid.ensures)

pub returns : goal.returns
returns g c =
    let name = encode_lower c.args.name.now in
    let svid = signed_decimal c.args.svid in
    let oh = encode_lower c.args.oh.now in
    let P : List ℕ → Type 0 = λ s. Wrote (g.W.Write.contents c.args.writer.now) (g.W.Write.contents c.write_hex-2.new.writer) c.write_hex-2.result s in
    let Q : ℤ → Type 0 = λ z. Appends (g.W.Write.contents c.write_hex.new.writer) (g.W.Write.contents c.write_svid.new.writer) (47 ∷ (signed_decimal z ++ 47 ∷ [])) in
    subst P (remote_text name svid oh)
    (Wrote-after _ _ _ c.write_hex-2.result (104 ∷ []) _ c.in_ok-write_parts.ensures
    (Wrote-after _ _ _ c.write_hex-2.result name _ c.in_ok-write_hex.ensures
    (Wrote-after _ _ _ c.write_hex-2.result (47 ∷ (svid ++ 47 ∷ [])) oh (subst Q (to_z-of_z w32 c.args.svid c.ranges.svid) c.in_ok-write_svid.ensures) c.write_hex-2.ensures)))
