use Rattle.std.proofs.Common.{◌++◌, ◌∷◌, []}
use Rattle.held_locks.specs.Asked.{view_of_new_setting}
use Rattle.held_locks.proofs.locks.Locks.set.Given as goal

abbrev pub ghost-after : goal.ghost-after
ghost-after g a = a.self.now.items ++ view_of_new_setting a.by.now ∷ []
