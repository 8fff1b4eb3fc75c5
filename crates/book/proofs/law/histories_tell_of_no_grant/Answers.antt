use Rattle.book.proofs.Histories.{histories_tell_of_no_grant}
use Rattle.book.proofs.law.histories_tell_of_no_grant.Goals as goal

pub returns : goal.returns
returns c = histories_tell_of_no_grant
