-- What was done to a connection, as contracts see it.
use Rattle.std.specs.Prelude.{ℕ, List}
use Rattle.reply_outbox.specs.declared.sockets.Done.{Done}
use Rattle.reply_outbox.specs.declared.sockets.Done.TheVariants as done
use Rattle.reply_outbox.specs.Effects.{Effect, Writes, Breaks, Shuts}

abbrev pub effect_of : ℕ → List ℕ → Done → Effect
effect_of connection bytes done.Writes = Writes connection bytes
effect_of connection bytes done.Breaks = Breaks connection
effect_of connection bytes done.Shuts = Shuts connection
