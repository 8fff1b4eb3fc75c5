use Rattle.record_mark.proofs.SentLemmas.{sent_is_one}
use Rattle.record_mark.proofs.law.sent_is_one_record.Goals as goal

pub returns : goal.returns
returns c = sent_is_one
