use Rattle.std.proofs.Common.{◌-◌, arith, rules}
use Rattle.range_table.specs.Runs.{upto_place}
use Rattle.range_table.proofs.Searches.{part, length-part, upto_parted, IsRunList-take, IsRunList-drop}
use Rattle.range_table.proofs.FileParts as parts
use Rattle.range_table.proofs.places.place_between.Goals as goal

pub returns-clause-place : goal.returns-clause-place
returns-clause-place c =
    let begin = c.args.begin in
    let end = c.args.end in
    let rs = c.args.runs.now.list in
    let size = c.partition_point-size.result in
    let test = upto_place c.args.file.now c.args.byte in
    let r = c.requires in
    let o = r.order in
    let w = r.within in
    let n = length-part begin (end - begin) rs (omega arith) in
    let b = c.partition_point-size.ensures.bound in
    parts.place_between test rs begin end size o w r.front r.behind (omega arith)
    (c.partition_point-size.ensures.place test (λ x b k. search rules) (upto_parted c.args.file.now c.args.byte (part begin (end - begin) rs) (IsRunList-take _ (end - begin) (IsRunList-drop rs begin c.args.runs.now.sorted))))
