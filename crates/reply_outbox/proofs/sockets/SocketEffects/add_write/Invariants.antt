use Rattle.std.proofs.Common.{[], ◌∷◌, ◌++◌}
use Rattle.reply_outbox.specs.Effects.{Writes}
use Rattle.reply_outbox.proofs.sockets.SocketEffects.add_write.Given as goal

abbrev pub ghost-after : goal.ghost-after
ghost-after a = a.self.now.items ++ Writes a.by.now.0 a.by.now.1.now ∷ []
