use Rattle.std.proofs.Common.{List, ℕ, sym, subst, ◌∙◌}
use Rattle.status_pages.specs.Requests.{Reads}
use Rattle.status_pages.specs.declared.request.Reading.TheVariants.{Wanted, Refused}
use Rattle.page_loop.specs.Talks.{Stands}
use Rattle.page_loop.proofs.TalkLemmas.{turn-read, turn-answer, turn-refused, wanted-stands}
use Rattle.page_loop.proofs.requests.turn.Goals as goal

pub returns-in-Partial : goal.returns-in-Partial
returns-in-Partial g c = turn-read c.read.result c.args.received.now c.read.new.self _ _ _ c.read.ensures

pub returns-in-Wanted : goal.returns-in-Wanted
returns-in-Wanted g c =
    turn-answer c.answer.result c.in-Wanted.asked c.args.received.now c.pass.new.self _ _ _
    (subst (Stands c.in-Wanted.asked c.args.received.now) (sym c.pass.ensures)
    (wanted-stands c.in-Wanted.asked c.args.received.now
    (subst (λ (l : List ℕ). Reads l (Wanted c.in-Wanted.asked)) (c.as_slice.ensures.value ∙ c.received.view_is) c.in-Wanted.ensures)))
    c.answer.ensures

pub returns-in-Refused : goal.returns-in-Refused
returns-in-Refused g c =
    turn-refused c.refuse.result c.in-Refused.refusal c.args.received.now _ _ _
    (subst (λ (l : List ℕ). Reads l (Refused c.in-Refused.refusal)) (c.as_slice.ensures.value ∙ c.received.view_is) c.in-Refused.ensures)
    c.refuse.ensures
