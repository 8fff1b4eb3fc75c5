use Rattle.rpc_msg.specs.declared.reply.ReplyStatus.TheVariants.{Denied}
use Rattle.rpc_msg.proofs.Fits.{reply_fits}
use Rattle.rpc_msg.proofs.reply.reply_denied.Goals as goal

pub returns-in-RpcMismatch-clause-size : goal.returns-in-RpcMismatch-clause-size
returns-in-RpcMismatch-clause-size c = reply_fits (Denied c.args.xid c.args.denial)

pub returns-in-BadCred-clause-size : goal.returns-in-BadCred-clause-size
returns-in-BadCred-clause-size c = reply_fits (Denied c.args.xid c.args.denial)
