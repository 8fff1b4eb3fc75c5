use Rattle.book.proofs.Same.{one_step}
use Rattle.book.proofs.law.one_step.Goals as goal

pub returns : goal.returns
returns c = one_step c.one_reading.ensures c.one_answer_reading.ensures c.one_line.ensures
