use Rattle.book.proofs.Journals.{begun_is_legal, legal_grows}
use Rattle.book.proofs.law.history_goes_on.Goals as goal

pub returns : goal.returns
returns c = record { begins = begun_is_legal; grows = legal_grows }
