use Rattle.std.proofs.Common.{◌<◌, ◌≤◌, ◌*◌, vec_len}
use Rattle.byte_io.specs.Reads.{TakesAtMost}
use Rattle.workers.proofs.ReadingLemmas.{SoFar}
use Rattle.workers.proofs.worker.Worker.read.Given as goal

abbrev pub invariant-loop-read : goal.invariant-loop-read
invariant-loop-read g l =
    SoFar (g.G.Gate.MayAnswer l.fn.gate) (g.G.Gate.holds l.fn.gate) l.fn.source.origin l.source.origin (g.T.Read.remaining l.fn.source.stream) (g.T.Read.remaining l.source.stream) l.intake l.fn.self l.self (g.O.Outbox.handed l.fn.outbox) (g.O.Outbox.handed l.outbox)
    × ((0 < vec_len l.place) × (vec_len l.place ≤ 8192))
    × TakesAtMost (8192 * l._read) (g.T.Read.remaining l.fn.source.stream) (g.T.Read.remaining l.source.stream)
