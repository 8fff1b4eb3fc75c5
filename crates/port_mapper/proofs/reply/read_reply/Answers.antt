use Rattle.std.proofs.Common.{subst}
use Rattle.rpc_msg.specs.declared.answer.AnswerOutcome.{AnswerOutcome}
use Rattle.rpc_msg.specs.declared.answer.AnswerOutcome.TheVariants.{Success, Failure}
use Rattle.rpc_msg.specs.Answered.{IsAnswerOf}
use Rattle.port_mapper.proofs.Readings.{not_done, not_spelled}
use Rattle.port_mapper.proofs.reply.read_reply.Goals as goal

pub returns-in-Some-Failure : goal.returns-in-Some-Failure
returns-in-Some-Failure g c =
    let failed : IsAnswerOf c.args.bytes.now c.args.xid Failure = rw c.in-Some-Failure.field-0-is at c.in-Some-Failure.ensures.some in
    ((Failure, failed), not_done c.one_answer.ensures c.args.bytes.now g.T.Wire.codec c.args.xid failed)

pub returns-in-None-read_whole : goal.returns-in-None-read_whole
returns-in-None-read_whole g c =
    let text = c.in-Some-Success.result in
    let done : IsAnswerOf c.args.bytes.now c.args.xid (Success text) = rw c.in-Some-Success.field-0-is at c.in-Some-Success.ensures.some in
    ((Success text, done), not_spelled c.one_answer.ensures c.args.bytes.now g.T.Wire.codec c.args.xid text done c.in-None-read_whole.ensures.none)
