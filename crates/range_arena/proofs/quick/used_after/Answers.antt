use Rattle.std.proofs.Common.{arith}
use Rattle.range_table.proofs.Lengths.{length_joined_by}
use Rattle.range_arena.proofs.quick.used_after.Goals as goal

pub returns-in-Some : goal.returns-in-Some
returns-in-Some c =
    let u = rw c.widened.ensures at c.used_cut.ensures.count in
    rw c.in-Some.is (omega (arith, length_joined_by c.args.range.now.setting c.in-Some.mode c.args.runs.now.list, u))
