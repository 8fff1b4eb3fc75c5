use Rattle.rpc_msg.specs.declared.reply.ReplyStatus.TheVariants.{Mismatch}
use Rattle.rpc_msg.proofs.Fits.{reply_fits}
use Rattle.rpc_msg.proofs.reply.reply_mismatch.Goals as goal

pub returns-clause-size : goal.returns-clause-size
returns-clause-size c = reply_fits (Mismatch c.args.xid c.args.low c.args.high)
