use Rattle.book.proofs.Response.{kept_is_given_again}
use Rattle.book.proofs.law.kept_reply_is_given.Goals as goal

pub returns : goal.returns
returns c = kept_is_given_again
