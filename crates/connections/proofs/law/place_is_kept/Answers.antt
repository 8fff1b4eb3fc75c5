use Rattle.connections.proofs.Keeping.{kept_at_come, kept_at_leave, kept_at_lend}
use Rattle.connections.proofs.law.place_is_kept.Goals as goal

pub returns-clause-come : goal.returns-clause-come
returns-clause-come g c = kept_at_come _

pub returns-clause-leave : goal.returns-clause-leave
returns-clause-leave g c = kept_at_leave _

pub returns-clause-lend : goal.returns-clause-lend
returns-clause-lend g c = kept_at_lend _
