use Rattle.std.proofs.Common.{[]}
use Rattle.page_loop.specs.Talks.{Talks, trace}
use Rattle.page_loop.proofs.requests.serve_pages.Given as goal

abbrev pub invariant-loop-turn : goal.invariant-loop-turn
invariant-loop-turn g l =
    Talks [] l.received (trace (g.I.Read.remaining l.fn.input) (g.O.Write.contents l.fn.output)) (trace (g.I.Read.remaining l.input) (g.O.Write.contents l.output))
