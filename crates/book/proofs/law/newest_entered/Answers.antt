use Rattle.book.proofs.Newest.{newest_law}
use Rattle.book.proofs.law.newest_entered.Goals as goal

pub returns : goal.returns
returns c = newest_law
