use Rattle.std.proofs.Common.{rules}
use Rattle.range_arena.specs.Indexed.{owned_upto}
use Rattle.range_table.proofs.Halves.{place_whole}
use Rattle.range_arena.proofs.Owned.{upto_parted, parted_whole}
use Rattle.range_arena.proofs.indexed.owned_past.Goals as goal

pub returns-clause-place : goal.returns-clause-place
returns-clause-place c =
    let test = owned_upto c.args.range.now c.args.byte in
    let rs = c.args.runs.now in
    place_whole test rs c.len.result c.partition_point.result c.len.ensures.len
    (c.partition_point.ensures.place test (λ x b k. search rules) (parted_whole test rs c.len.result c.len.ensures.len (upto_parted c.args.range.now c.args.byte rs c.requires)))
