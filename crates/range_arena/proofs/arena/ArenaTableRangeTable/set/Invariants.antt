use Rattle.std.proofs.Common.{◌++◌, ◌∷◌, []}
use Rattle.range_arena.proofs.arena.ArenaTableRangeTable.set.Given as goal

abbrev pub ghost-after : goal.ghost-after
ghost-after a = a.self.now.items ++ a.by.now ∷ []
