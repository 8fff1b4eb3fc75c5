use Rattle.std.proofs.Common.{Bool, rules}
use Rattle.range_table.specs.Runs.{run_before, first_cmp}
use Rattle.range_table.specs.declared.run.Run.{Run}
use Rattle.range_table.proofs.Halves.{place_whole}
use Rattle.range_table.proofs.Inserting.{first_total}
use Rattle.range_arena.proofs.Owned.{before_parted, parted_whole, sorted_list}
use Rattle.range_arena.proofs.indexed.seat.Goals as goal

pub returns : goal.returns
returns c =
    let test : Run → Bool = λ s. run_before s c.args.run.now in
    let rs = c.args.runs.now.list in
    place_whole test rs c.len.result c.partition_point.result c.len.ensures.len
    (c.partition_point.ensures.place test (λ x b k. search rules) (parted_whole test rs c.len.result c.len.ensures.len (before_parted first_cmp first_total c.args.run.now rs (sorted_list rs c.args.runs.now.sorted))))
