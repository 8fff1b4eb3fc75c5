use Rattle.std.proofs.Common.{refl}
use Rattle.definitions.specs.Step.{Silent, GraceOver, Restart}
use Rattle.book.proofs.state.BookState.apply.Goals.{in-Take, in-Answer, in-Silent, in-GraceOver, in-Restart}
use Rattle.book.proofs.state.BookState.apply.Goals as goal

pub returns-clause-step : goal.returns-clause-step
returns-clause-step g c = elim c.match-event.branch [
  | in-Take w ↦ rw (w.in-Take.is, w.answered-is, w.self-is) w.take.ensures.step
  | in-Answer w ↦ rw (w.in-Answer.is, w.answered-is, w.self-is, ← w.deref.ensures.value) w.answer.ensures.step
  | in-Silent w ↦ rw (w.in-Silent.is, w.answered-is, w.self-is) (record { said = Silent w.in-Silent.number; reads = refl; step = w.silent.ensures.step })
  | in-GraceOver w ↦ rw (w.in-GraceOver.is, w.answered-is, w.self-is) (record { said = GraceOver; reads = refl; step = w.grace_over.ensures.step })
  | in-Restart w ↦ rw (w.in-Restart.is, w.answered-is, w.self-is) (record { said = Restart; reads = refl; step = w.restart.ensures.step })
]
