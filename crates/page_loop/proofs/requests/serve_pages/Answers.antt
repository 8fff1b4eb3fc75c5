use Rattle.std.proofs.Common.{[], List, ℕ, Option, sym, subst}
use Rattle.page_loop.specs.declared.ending.PagesEnding.{PagesEnding}
use Rattle.page_loop.specs.declared.ending.PagesEnding.TheVariants as ending
use Rattle.page_loop.specs.Talks.{Talks, Turns, Trace, trace}
use Rattle.page_loop.proofs.TalkLemmas.{stops-at, stops-last, talks-start, turn-after}
use Rattle.page_loop.proofs.requests.serve_pages.Goals as goal

pub returns-in_default : goal.returns-in_default
returns-in_default g c = stops-at ending.Starved [] _ _ tt

pub loop-turn-init : goal.loop-turn-init
loop-turn-init g c =
    let x : Trace = trace (g.I.Read.remaining c.args.input.now) (g.O.Write.contents c.args.output.now) in
    subst (λ (b : List ℕ). Talks [] b x x) (sym c.in-Ok.ensures) (talks-start [] x)

pub returns-in-Some : goal.returns-in-Some
returns-in-Some g c =
    let x : Trace = trace (g.I.Read.remaining c.args.input.now) (g.O.Write.contents c.args.output.now) in
    let y : Trace = trace (g.I.Read.remaining c.loop-turn.input) (g.O.Write.contents c.loop-turn.output) in
    let z : Trace = trace (g.I.Read.remaining c.turn.new.input) (g.O.Write.contents c.turn.new.output) in
    subst (λ (r : Option PagesEnding). Turns r [] c.turn.new.received x z) c.in-Some.is
    (turn-after c.turn.result [] c.loop-turn.received c.turn.new.received x y z c.loop-turn.invariant c.turn.ensures)

pub loop-turn-preserved : goal.loop-turn-preserved
loop-turn-preserved g c =
    let x : Trace = trace (g.I.Read.remaining c.args.input.now) (g.O.Write.contents c.args.output.now) in
    let y : Trace = trace (g.I.Read.remaining c.loop-turn.input) (g.O.Write.contents c.loop-turn.output) in
    let z : Trace = trace (g.I.Read.remaining c.turn.new.input) (g.O.Write.contents c.turn.new.output) in
    subst (λ (r : Option PagesEnding). Turns r [] c.turn.new.received x z) c.in-None.is
    (turn-after c.turn.result [] c.loop-turn.received c.turn.new.received x y z c.loop-turn.invariant c.turn.ensures)

pub returns : goal.returns
returns g c = stops-last ending.ReadFault [] c.loop-turn.received _ _ _ _ tt c.loop-turn.invariant
