use Rattle.std.proofs.Common.{sym, subst}
use Rattle.definitions.specs.Bytes.{Bytes}
use Rattle.std.proofs.Common.{◌∷◌, []}
use Rattle.line_loop.specs.Lines.{Takes, trace}
use Rattle.line_loop.proofs.LineLemmas.{line-said}
use Rattle.line_loop.proofs.lines.end_line.Goals as goal

pub returns-in-Ok : goal.returns-in-Ok
returns-in-Ok g c =
    subst (λ (l : Bytes). Takes c.answer_line.result c.args.connection c.args.part.now (10 ∷ []) l (trace (g.O.Write.contents c.args.output.now) (g.A.Answers.told c.args.line_handler.now)) (trace (g.O.Write.contents c.answer_line.new.output) (g.A.Answers.told c.answer_line.new.line_handler))) (sym c.in-Ok.ensures.next)
    (line-said c.answer_line.result c.args.connection c.args.part.now c.in-Ok.line.items _ _ c.in-Ok.ensures.no_feed c.in-Ok.ensures.line c.answer_line.ensures)
