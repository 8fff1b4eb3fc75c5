use Rattle.std.proofs.Common.{ℕ, List, subst}
use Rattle.reply_outbox.specs.Writes.{IsWritten}
use Rattle.reply_outbox.proofs.InOrderLemmas.{written}
use Rattle.reply_outbox.proofs.buffer.write_joined.Goals as goal

pub returns-then-not-is_empty-clause-in_order : goal.returns-then-not-is_empty-clause-in_order
returns-then-not-is_empty-clause-in_order g c handed all =
    let old = g.S.ReplySockets.effects c.args.sockets.now in
    let new = g.S.ReplySockets.effects c.write.new.self in
    written handed old c.args.to _ all new (subst (λ (bytes : List ℕ). IsWritten c.args.to bytes old new) c.as_slice.ensures.value c.write.ensures)
