use Rattle.definitions.specs.Step.{State}
use Rattle.local_ops.specs.Answers.{view_of_local_answer}
use Rattle.book.proofs.Lines.{set_so}
use Rattle.book.proofs.state.BookState.set.Goals as goal

pub returns-clause-ok : goal.returns-clause-ok
returns-clause-ok g c =
    let s : State = record { world = c.self.inside.world.world; kept = c.self.inside.kept } in
    rw (← c.self.view_is) (set_so s c.args.line.now (view_of_local_answer c.in_ok-answer.answer) c.set_lock.new.world.world c.in_ok-answer.ensures.reply c.in_ok-answer.ensures.world)
