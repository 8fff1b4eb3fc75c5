use Rattle.local_ops.proofs.Linewise.{reads_is}
use Rattle.local_ops.proofs.call.LocalCall.read.Goals as goal

pub returns : goal.returns
returns c = reads_is c.args.line.now c.read_fields.result c.read_fields.ensures
