use Rattle.std.proofs.Common.{ap, ◌∙◌, sym, Some}
use Rattle.std.specs.Prelude.{option_map}
use Rattle.book.specs.Given.{StepResult}
use Rattle.book.specs.Notes.{Note, Takes}
use Rattle.server_tests.proofs.rotation.taken.Goals as goal

pub receipt-requires-clause-call : goal.receipt-requires-clause-call
receipt-requires-clause-call c =
    ap (option_map (λ (n : Note). n.event)) (c.newest_entered.ensures _ _ _ _ c.apply-step_result.ensures.enters)
    ∙ ap (λ asked. Some (Takes _ asked)) (sym c.requires.same)

pub receipt-requires-clause-reply : goal.receipt-requires-clause-reply
receipt-requires-clause-reply c =
    ap (option_map (λ (n : Note). n.step_result.given)) (c.newest_entered.ensures _ _ _ _ c.apply-step_result.ensures.enters)
    ∙ ap (λ (u : StepResult). Some u.given) (sym c.step_result.view_is)
