use Rattle.blocked_list.proofs.Following.{unmade}
use Rattle.blocked_list.proofs.cycles.unmarked.Goals as goal

pub returns : goal.returns
returns c = unmade 8192
