use Rattle.book.specs.Given.{view_of_reply}
use Rattle.workers.proofs.call_handler.AtBookEnteringCallHandler.enter.Goals as goal

pub returns-clause-taken : goal.returns-clause-taken
returns-clause-taken g c = (
  c.in-Ok.entered.receipt,
  view_of_reply c.reply.result.now,
  c.in-Ok.ensures.told.0,
  c.reply.ensures,
  λ i. record { receipts = c.add.ensures.all i; keeps = c.add.ensures.kept i },
  c.post.ensures,
)
