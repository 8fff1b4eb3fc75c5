use Rattle.record_mark.proofs.OneReading.{Splits-one}
use Rattle.record_mark.proofs.law.one_reading.Goals as goal

pub returns : goal.returns
returns c = Splits-one
