use Rattle.std.proofs.Common.{not}
use Rattle.std.specs.List.{filter}
use Rattle.range_table.specs.Settings.{is_by}
use Rattle.range_arena.proofs.arena.ArenaTableRangeTable.drop_owner_on_file.Given as goal

abbrev pub ghost-after : goal.ghost-after
ghost-after a = filter (λ s. not (is_by a.by.now.0 a.by.now.1 s)) a.self.now.items
