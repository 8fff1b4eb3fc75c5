use Rattle.std.proofs.Common.{◌≡◌, List, ℕ, [], ◌∷◌, ◌++◌, subst, ◌∙◌, append_assoc}
use Rattle.std.specs.Fmt.{decimal}
use Rattle.hex.specs.Hex.{encode_lower}
use Rattle.owner_ids.specs.Views.{view_of_owner}
use Rattle.range_table.specs.Modes.{view_of_mode}
use Rattle.held_locks.specs.Asked.{view_of_lock_holder}
use Rattle.held_locks.specs.declared.asked.RunHolder.{RunHolder}
use Rattle.local_ops.specs.Texts.{spaced_fields, owner_text, mode_text, run_line}
use Rattle.byte_io.specs.Written.{WroteFront}
use Rattle.table_text.specs.Blocks.{WroteAllBut}
use Rattle.table_text.proofs.Passing.{WroteAllBut-then, Passed-last, failed-first, failed-then}
use Rattle.table_text.proofs.Pieces.{run_pieces}
use Rattle.table_text.proofs.lines.put_run.Goals as goal

-- the pieces that are put one behind the other
abbrev file : RunHolder → List ℕ
file run = encode_lower run.file

abbrev range : RunHolder → List ℕ
range run = spaced_fields ([] ∷ mode_text (view_of_mode run.mode) ∷ decimal run.first ∷ decimal run.last ∷ [] ∷ [])

abbrev owner : RunHolder → List ℕ
owner run = owner_text (view_of_owner run.owner.now)

run_is : (run : RunHolder) → file run ++ (range run ++ (owner run ++ 10 ∷ [])) ≡ run_line (view_of_lock_holder run)
run_is run = run_pieces (file run) (mode_text (view_of_mode run.mode)) (decimal run.first) (decimal run.last) (owner run)

pub returns-in_err-put_hex : goal.returns-in_err-put_hex
returns-in_err-put_hex g c =
    let run = c.args.run.now in
    let P : List ℕ → Type 0 = λ n. WroteFront (g.W.Write.contents c.args.writer.now) (g.W.Write.contents c.put_hex.new.writer) (c.args.block.now ++ encode_lower n) in
    failed-first _ _ c.from_residual.result c.args.block.now (file run) (range run ++ (owner run ++ 10 ∷ [])) _ _ (run_is run)
    c.from_residual.ensures.0 (subst P c.as_bytes.ensures c.in_err-put_hex.ensures)

pub returns-in_err-put_range : goal.returns-in_err-put_range
returns-in_err-put_range g c =
    let run = c.args.run.now in
    let P : List ℕ → Type 0 = λ n. WroteAllBut (g.W.Write.contents c.args.writer.now) (g.W.Write.contents c.put_hex.new.writer) c.put_hex.new.block (c.args.block.now ++ encode_lower n) in
    failed-then _ _ _ c.from_residual-in_err-put_range.result c.args.block.now (file run) _ (range run) (owner run ++ 10 ∷ []) _ _ (run_is run)
    c.from_residual-in_err-put_range.ensures.0 (subst P c.as_bytes.ensures c.in_ok-put_hex.ensures) c.in_err-put_range.ensures

pub returns-in_err-put_owner : goal.returns-in_err-put_owner
returns-in_err-put_owner g c =
    let run = c.args.run.now in
    let P : List ℕ → Type 0 = λ n. WroteAllBut (g.W.Write.contents c.args.writer.now) (g.W.Write.contents c.put_hex.new.writer) c.put_hex.new.block (c.args.block.now ++ encode_lower n) in
    failed-then _ _ _ c.from_residual-in_err-put_owner.result c.args.block.now (file run ++ range run) _ (owner run) (10 ∷ []) _ _
    (append_assoc (file run) (range run) (owner run ++ 10 ∷ []) ∙ run_is run) c.from_residual-in_err-put_owner.ensures.0
    (WroteAllBut-then _ _ _ c.args.block.now (file run) _ (range run) _ (subst P c.as_bytes.ensures c.in_ok-put_hex.ensures) c.in_ok-put_range.ensures) c.in_err-put_owner.ensures

pub returns : goal.returns
returns g c =
    let run = c.args.run.now in
    let P : List ℕ → Type 0 = λ n. WroteAllBut (g.W.Write.contents c.args.writer.now) (g.W.Write.contents c.put_hex.new.writer) c.put_hex.new.block (c.args.block.now ++ encode_lower n) in
    Passed-last _ _ _ c.put_parts.result c.args.block.now ((file run ++ range run) ++ owner run) _ (10 ∷ []) _ _
    (append_assoc (file run ++ range run) (owner run) (10 ∷ []) ∙ (append_assoc (file run) (range run) (owner run ++ 10 ∷ []) ∙ run_is run))
    (WroteAllBut-then _ _ _ c.args.block.now (file run ++ range run) _ (owner run) _
    (WroteAllBut-then _ _ _ c.args.block.now (file run) _ (range run) _ (subst P c.as_bytes.ensures c.in_ok-put_hex.ensures) c.in_ok-put_range.ensures) c.in_ok-put_owner.ensures)
    c.put_parts.ensures
