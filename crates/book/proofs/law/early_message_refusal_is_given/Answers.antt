use Rattle.book.proofs.Response.{message_refusal_is_told}
use Rattle.book.proofs.law.early_message_refusal_is_given.Goals as goal

pub returns : goal.returns
returns c = message_refusal_is_told
