use Rattle.std.proofs.Common.{◌≡◌, length, rules}
use Rattle.range_table.proofs.Kept.{used_kept}
use Rattle.range_arena.proofs.arena.ArenaTableRangeTable.used.Goals as goal

pub returns : goal.returns
returns c =
    let l : length c.self.inside.runs.list ≡ c.len.result = search rules in
    rw (← c.self.view_is, ← l) (used_kept c.self.inside.runs.list c.self.inside.history.items c.self.invariant c.self.inside.runs.sorted)
