use Rattle.held_locks.proofs.Keeping.{stands_after}
use Rattle.held_locks.proofs.owners.laws.setting_keeps.Goals as goal

pub returns : goal.returns
returns c = stands_after
