use Rattle.std.proofs.Common.{◌∷◌, ◌++◌, [], List, ℕ, ap, sym, ◌∙◌, append_assoc}
use Rattle.std.proofs.lemmas.Result.{err_from_is_err_and}
use Rattle.peers.specs.File.{lines_of}
use Rattle.peers.proofs.Filling.{ArePeers-more, refused}
use Rattle.peers.proofs.peers.Peers.read.Goals as goal

pub returns-in_err-add : goal.returns-in_err-add
returns-in_err-add c =
    let p = err_from_is_err_and c.from_residual.result c.from_residual.ensures.1 in
    let so_far = c.loop-rest.invariant in
    let line = c.split_line.result.0.now in
    let after = lines_of c.split_line.result.1.now in
    rw (p.1, p.2)
    (refused c.args.bytes.now so_far.0 after line c.loop-rest.peers _ c.in_err-add.field-0.0 (so_far.1 ∙ ap (λ (lines : List (List ℕ)). so_far.0 ++ lines) c.split_line.ensures) so_far.2 c.in_err-add.ensures)

pub loop-rest-preserved : goal.loop-rest-preserved
loop-rest-preserved c =
    let so_far = c.loop-rest.invariant in
    let line = c.split_line.result.0.now in
    let after = lines_of c.split_line.result.1.now in (
      so_far.0 ++ line ∷ [],
      so_far.1 ∙ ap (λ (lines : List (List ℕ)). so_far.0 ++ lines) c.split_line.ensures ∙ sym (append_assoc so_far.0 (line ∷ []) after),
      ArePeers-more so_far.0 line _ _ so_far.2 c.in_ok-add.ensures,
    )
