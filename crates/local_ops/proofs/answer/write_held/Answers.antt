use Rattle.std.proofs.Common.{List, ℕ, [], ◌∷◌, ◌++◌, subst}
use Rattle.std.specs.Fmt.{decimal}
use Rattle.std.specs.Prelude.{codes}
use Rattle.owner_ids.specs.Views.{view_of_owner}
use Rattle.range_table.specs.Modes.{view_of_mode}
use Rattle.local_ops.specs.Texts.{spaced_fields, owner_text, mode_text}
use Rattle.byte_io.specs.Written.{Wrote}
use Rattle.byte_io.proofs.Appending.{Wrote-after}
use Rattle.local_ops.proofs.Writing.{failed-first, failed-then, held_text}
use Rattle.local_ops.proofs.answer.write_held.Goals as goal

pub returns-in_err-write_range : goal.returns-in_err-write_range
returns-in_err-write_range g c =
    let mode = mode_text (view_of_mode c.args.mode) in
    let owner = owner_text (view_of_owner c.args.owner.now) in
    failed-first _ _ _ _ (owner ++ 10 ∷ []) _ (held_text mode (decimal c.args.first) (decimal c.args.len) owner)
    c.from_residual.ensures.0 c.in_err-write_range.ensures

pub returns-in_err-write_owner : goal.returns-in_err-write_owner
returns-in_err-write_owner g c =
    let mode = mode_text (view_of_mode c.args.mode) in
    let range = spaced_fields (codes "held" ∷ mode ∷ decimal c.args.first ∷ decimal c.args.len ∷ [] ∷ []) in
    let owner = owner_text (view_of_owner c.args.owner.now) in
    failed-then _ _ _ _ range owner (10 ∷ []) _ (held_text mode (decimal c.args.first) (decimal c.args.len) owner)
    c.from_residual-in_err-write_owner.ensures.0 c.in_ok-write_range.ensures c.in_err-write_owner.ensures

pub returns : goal.returns
returns g c =
    let mode = mode_text (view_of_mode c.args.mode) in
    let range = spaced_fields (codes "held" ∷ mode ∷ decimal c.args.first ∷ decimal c.args.len ∷ [] ∷ []) in
    let owner = owner_text (view_of_owner c.args.owner.now) in
    let P : List ℕ → Type 0 = λ s. Wrote (g.W.Write.contents c.args.writer.now) (g.W.Write.contents c.write_parts.new.writer) c.write_parts.result s in
    subst P (held_text mode (decimal c.args.first) (decimal c.args.len) owner)
    (Wrote-after _ _ _ c.write_parts.result range (owner ++ 10 ∷ []) c.in_ok-write_range.ensures
    (Wrote-after _ _ _ c.write_parts.result owner (10 ∷ []) c.in_ok-write_owner.ensures c.write_parts.ensures))
