use Rattle.reply_outbox.proofs.InOrderLemmas.{joins, shuts}
use Rattle.reply_outbox.proofs.buffer.join.Goals as goal

pub returns-in-Err-clause-in_order : goal.returns-in-Err-clause-in_order
returns-in-Err-clause-in_order g c handed all =
    rw (c.shut.ensures, c.clear.ensures.items) (shuts handed _ c.args.to _ (c.make_room.ensures.in_order handed all) c.args.message.now)

pub returns-in-Ok-clause-in_order : goal.returns-in-Ok-clause-in_order
returns-in-Ok-clause-in_order g c handed all =
    rw c.in-Ok.ensures.ok (joins handed _ c.args.to _ (c.make_room.ensures.in_order handed all) c.args.message.now)
