use Rattle.blocked_list.proofs.Limits.{unlimited}
use Rattle.blocked_list.proofs.laws.unlimited_exceeds_nothing.Goals as goal

pub returns : goal.returns
returns c = unlimited
