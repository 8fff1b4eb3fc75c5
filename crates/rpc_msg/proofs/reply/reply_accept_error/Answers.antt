use Rattle.rpc_msg.specs.declared.reply.ReplyStatus.TheVariants.{AcceptFailure}
use Rattle.rpc_msg.proofs.Fits.{reply_fits}
use Rattle.rpc_msg.proofs.reply.reply_accept_error.Goals as goal

pub returns-clause-size : goal.returns-clause-size
returns-clause-size c = reply_fits (AcceptFailure c.args.xid c.args.error)
