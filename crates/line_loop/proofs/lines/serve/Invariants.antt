use Rattle.std.proofs.Common.{ℕ, ◌*◌, List, []}
use Rattle.std.specs.Io.KnownBytes.{Consumes}
use Rattle.byte_io.specs.Reads.{TakesAtMost}
use Rattle.line_loop.specs.Lines.{Serves, trace}
use Rattle.line_loop.proofs.lines.serve.Given as goal

abbrev pub invariant-loop-read : goal.invariant-loop-read
invariant-loop-read g l =
    (bytes : List ℕ) × Consumes (g.I.Read.remaining l.fn.input) (g.I.Read.remaining l.input) bytes
    × Serves l.fn.connection [] bytes l.part
    (trace (g.O.Write.contents l.fn.output) (g.A.Answers.told l.fn.line_handler)) (trace (g.O.Write.contents l.output) (g.A.Answers.told l.line_handler))
    × TakesAtMost (4096 * l._read) (g.I.Read.remaining l.fn.input) (g.I.Read.remaining l.input)
