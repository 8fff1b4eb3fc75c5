use Rattle.std.proofs.Common.{[], ◌∷◌, ◌++◌}
use Rattle.reply_outbox.specs.Effects.{Breaks}
use Rattle.reply_outbox.proofs.sockets.SocketEffects.add_break.Given as goal

abbrev pub ghost-after : goal.ghost-after
ghost-after a = a.self.now.items ++ Breaks a.by.now ∷ []
