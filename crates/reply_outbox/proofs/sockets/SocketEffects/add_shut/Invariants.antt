use Rattle.std.proofs.Common.{[], ◌∷◌, ◌++◌}
use Rattle.reply_outbox.specs.Effects.{Shuts}
use Rattle.reply_outbox.proofs.sockets.SocketEffects.add_shut.Given as goal

abbrev pub ghost-after : goal.ghost-after
ghost-after a = a.self.now.items ++ Shuts a.by.now ∷ []
