use Rattle.blocked_list.proofs.Freed.{close_frees}
use Rattle.blocked_list.proofs.laws.close_frees_own_bytes.Goals as goal

pub returns : goal.returns
returns c = close_frees
