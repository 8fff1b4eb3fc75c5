use Rattle.std.proofs.Common.{arith}
use Rattle.range_table.proofs.Kept.{count_kept, AreRuns-kept}
use Rattle.range_table.proofs.flat.FlatTableRangeTable.copy_runs.Goals as goal

pub copy_to-requires : goal.copy_to-requires
copy_to-requires c =
    let n = count_kept c.self.inside.runs.list c.self.inside.history.items c.self.invariant c.self.inside.runs.sorted c.requires.room.0 (rw (← c.self.view_is) at c.requires.room.1) in
    record { room = omega (arith, n, c.requires.room.2) }

pub returns : goal.returns
returns c = (c.self.inside.runs.list, rw (← c.self.view_is) (AreRuns-kept c.self.inside.runs.list c.self.inside.history.items c.self.invariant c.self.inside.runs.sorted), c.copy_to.ensures)
