use Rattle.std.proofs.Common.{not}
use Rattle.std.specs.List.{filter}
use Rattle.range_arena.proofs.arena.ArenaTableRangeTable.drop_host.Given as goal

abbrev pub ghost-after : goal.ghost-after
ghost-after g a = filter (λ s. not (g.H.Host.has a.by.now s.owner)) a.self.now.items
