use Rattle.std.proofs.Common.{◌++◌, ◌∷◌, []}
use Rattle.ghost_list.proofs.History.and.Given as goal

abbrev pub ghost-after : goal.ghost-after
ghost-after g a = a.self.now.items ++ a.by.now ∷ []
