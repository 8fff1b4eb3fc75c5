use Rattle.std.proofs.Common.{◌∷◌}
use Rattle.boot_states.proofs.host.with_first.Given as goal

abbrev pub ghost-after : goal.ghost-after
ghost-after a = a.by.now ∷ a.self.now.items
