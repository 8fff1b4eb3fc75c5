use Rattle.local_ops.proofs.Linewise.{one_line}
use Rattle.local_ops.proofs.law.one_line.Goals as goal

pub returns : goal.returns
returns c = one_line
