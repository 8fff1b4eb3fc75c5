use Rattle.rpc_msg.proofs.OneAnswer.{has_one_answer}
use Rattle.rpc_msg.proofs.law.one_answer.Goals as goal

pub returns : goal.returns
returns c = has_one_answer
