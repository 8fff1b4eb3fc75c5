use Rattle.daemon_core.proofs.law.starves_where_full.Goals as goal
use Rattle.daemon_core.proofs.Fullness.{starves_where_full}

pub returns : goal.returns
returns c = starves_where_full
