use Rattle.book.proofs.Response.{refusal_is_told}
use Rattle.book.proofs.law.early_refusal_is_given.Goals as goal

pub returns : goal.returns
returns c = refusal_is_told
