use Rattle.held_locks.proofs.Counting.{two_more}
use Rattle.held_locks.proofs.locks.Locks.is_short.Goals as goal

pub returns : goal.returns
returns g c = two_more c.used.result c.args.self.now.settings c.used.ensures
