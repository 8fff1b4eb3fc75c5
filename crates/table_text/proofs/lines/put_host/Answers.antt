use Rattle.std.proofs.Common.{List, ℕ, [], ◌∷◌, ◌++◌, subst}
use Rattle.std.specs.Fmt.{decimal, signed_decimal}
use Rattle.hex.specs.Hex.{encode_lower}
use Rattle.local_ops.specs.Texts.{line}
use Rattle.byte_io.specs.Written.{WroteFront}
use Rattle.table_text.specs.Blocks.{WroteAllBut}
use Rattle.table_text.proofs.Passing.{Passed-last, failed-first}
use Rattle.table_text.proofs.Pieces.{row_pieces}
use Rattle.table_text.proofs.lines.put_host.Goals as goal

pub returns-in_err-put_hex : goal.returns-in_err-put_hex
returns-in_err-put_hex g c =
    let row = c.args.row.now in
    let P : List ℕ → Type 0 = λ n. WroteFront (g.W.Write.contents c.args.writer.now) (g.W.Write.contents c.put_hex.new.writer) (c.args.block.now ++ encode_lower n) in
    failed-first _ _ c.from_residual.result c.args.block.now (encode_lower row.name) (line ([] ∷ decimal row.epoch ∷ signed_decimal row.seen ∷ decimal row.quota ∷ [])) _ _
    (row_pieces (encode_lower row.name) (decimal row.epoch) (signed_decimal row.seen) (decimal row.quota)) c.from_residual.ensures.0 (subst P c.name.ensures.value c.in_err-put_hex.ensures)

pub returns : goal.returns
returns g c =
    let row = c.args.row.now in
    let P : List ℕ → Type 0 = λ n. WroteAllBut (g.W.Write.contents c.args.writer.now) (g.W.Write.contents c.put_hex.new.writer) c.put_hex.new.block (c.args.block.now ++ encode_lower n) in
    Passed-last _ _ _ c.put_row.result c.args.block.now (encode_lower row.name) _ (line ([] ∷ decimal row.epoch ∷ signed_decimal row.seen ∷ decimal row.quota ∷ [])) _ _
    (row_pieces (encode_lower row.name) (decimal row.epoch) (signed_decimal row.seen) (decimal row.quota)) (subst P c.name.ensures.value c.in_ok-put_hex.ensures) c.put_row.ensures
