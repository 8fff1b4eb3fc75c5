use Rattle.std.proofs.Common.{◌≡◌, [], arith}
use Rattle.std.proofs.lemmas.Grind.{common_steps}
use Rattle.line_loop.proofs.LineLemmas.{Serves-none, Front-none}
use Rattle.line_loop.proofs.lines.hear.Goals as goal

pub returns-then-is_empty : goal.returns-then-is_empty
returns-then-is_empty g c =
    let none : c.args.piece.now ≡ [] = grind (arith, common_steps) in
    (none, Serves-none _ _ _ c.has_no_feed.ensures)

pub returns-then-is_stopping : goal.returns-then-is_stopping
returns-then-is_stopping g c = Front-none _ _ _ _ c.has_no_feed.ensures
