use Rattle.book.proofs.Histories.{segments_are_legal}
use Rattle.book.proofs.law.segments_are_one_history.Goals as goal

pub returns : goal.returns
returns c = segments_are_legal
