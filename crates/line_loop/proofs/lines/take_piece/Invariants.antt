use Rattle.std.proofs.Common.{take}
use Rattle.line_loop.specs.Lines.{Serves, trace}
use Rattle.line_loop.proofs.lines.take_piece.Given as goal

abbrev pub invariant-loop-byte : goal.invariant-loop-byte
invariant-loop-byte g l =
    Serves l.fn.connection l.fn.part (take l.byte-index l.fn.piece) l.part
    (trace (g.O.Write.contents l.fn.output) (g.A.Answers.told l.fn.line_handler)) (trace (g.O.Write.contents l.output) (g.A.Answers.told l.line_handler))
