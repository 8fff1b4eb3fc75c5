use Rattle.book.proofs.Histories.{histories_grant_reclaims_only}
use Rattle.book.proofs.law.histories_grant_reclaims_only.Goals as goal

pub returns : goal.returns
returns c = histories_grant_reclaims_only
