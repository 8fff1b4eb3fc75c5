use Rattle.rpc_msg.specs.declared.reply.ReplyStatus.TheVariants.{Success}
use Rattle.rpc_msg.proofs.Fits.{reply_fits}
use Rattle.rpc_msg.proofs.reply.reply_success.Goals as goal

pub returns-clause-size : goal.returns-clause-size
returns-clause-size c = reply_fits (Success c.args.xid)
