use Rattle.call_codec.proofs.OneAnswers.{one_of_answer}
use Rattle.call_codec.proofs.reading.law.one_answer_reading.Goals as goal

pub returns : goal.returns
returns c = one_of_answer
