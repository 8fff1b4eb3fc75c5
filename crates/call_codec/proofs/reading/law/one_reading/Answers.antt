use Rattle.call_codec.proofs.OneReadings.{one_of_record}
use Rattle.call_codec.proofs.reading.law.one_reading.Goals as goal

pub returns : goal.returns
returns c = one_of_record
