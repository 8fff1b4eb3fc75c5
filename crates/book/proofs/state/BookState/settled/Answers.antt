use Rattle.definitions.specs.Step.{State}
use Rattle.local_ops.specs.Answers.{view_of_local_answer}
use Rattle.book.proofs.Lines.{settled_so}
use Rattle.book.proofs.state.BookState.settled.Goals as goal

pub returns-clause-ok : goal.returns-clause-ok
returns-clause-ok g c =
    let s : State = record { world = c.self.inside.world.world; kept = c.self.inside.kept } in
    rw (← c.self.view_is, c.in_ok-answer.was) (λ l line reply only says. settled_so s l line reply (view_of_local_answer c.in_ok-answer.answer) c.settle.new.self.world only.0 only.1 says c.settle.ensures.world)
