use Rattle.std.proofs.Common.{refl}
use Rattle.definitions.specs.Step.{State, Answer}
use Rattle.call_codec.specs.Answers.{view_of_answer}
use Rattle.book.proofs.state.BookState.answer.Goals as goal

pub returns-clause-step : goal.returns-clause-step
returns-clause-step g c =
    let s : State = record { world = c.self.inside.world.world; kept = c.self.inside.kept } in
    let reading = view_of_answer c.read-reading.result in
    rw (← c.self.view_is, c.nothing.ensures) (record {
      said = Answer reading;
      reads = (reading, c.read-reading.ensures, refl);
      step = record { gives = refl; leaves = rw c.answered.ensures.world refl; fits = c.answered.ensures.fits c.self.inside.kept };
    })
