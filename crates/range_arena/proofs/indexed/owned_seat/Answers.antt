use Rattle.std.proofs.Common.{Bool, rules}
use Rattle.range_arena.specs.Indexed.{owned_cmp, owned_before}
use Rattle.range_table.specs.declared.run.Run.{Run}
use Rattle.range_table.proofs.Halves.{place_whole}
use Rattle.range_arena.proofs.Owned.{before_parted, owned_total, parted_whole}
use Rattle.range_arena.proofs.indexed.owned_seat.Goals as goal

pub returns-clause-place : goal.returns-clause-place
returns-clause-place c =
    let test : Run → Bool = λ s. owned_before s c.args.run.now in
    let rs = c.args.runs.now in
    place_whole test rs c.len.result c.partition_point.result c.len.ensures.len
    (c.partition_point.ensures.place test (λ x b k. search rules) (parted_whole test rs c.len.result c.len.ensures.len (before_parted owned_cmp owned_total c.args.run.now rs c.requires)))
