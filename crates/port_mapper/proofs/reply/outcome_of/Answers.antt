use Rattle.port_mapper.proofs.Readings.{other_xid, no_answer}
use Rattle.port_mapper.proofs.reply.outcome_of.Goals as goal

pub returns-else-answer-xid-clause-none : goal.returns-else-answer-xid-clause-none
returns-else-answer-xid-clause-none c =
    other_xid c.one_answer.ensures c.args.bytes.now c.in-Some.answer c.args.xid c.in-Some.ensures.some c.if-answer-xid.false

pub returns-in-None-clause-none : goal.returns-in-None-clause-none
returns-in-None-clause-none c = no_answer c.one_answer.ensures c.args.bytes.now c.args.xid c.in-None.ensures.none
