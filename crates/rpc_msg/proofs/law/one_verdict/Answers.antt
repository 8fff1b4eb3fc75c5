use Rattle.rpc_msg.proofs.OneVerdict.{has_one_verdict}
use Rattle.rpc_msg.proofs.law.one_verdict.Goals as goal

pub returns : goal.returns
returns c = has_one_verdict
