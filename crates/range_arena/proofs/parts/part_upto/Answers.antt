use Rattle.std.proofs.Common.{◌≡◌, ◌-◌, true, false, take, sym, subst, ◌∙◌, arith, rules}
use Rattle.std.specs.List.{AllByRecursion}
use Rattle.std.proofs.lemmas.List.{take-take}
use Rattle.range_table.specs.Parts.{before_file}
use Rattle.range_table.specs.File.{same_file}
use Rattle.range_table.proofs.FileParts.{before_file_parted}
use Rattle.range_table.proofs.Searches.{IsRunList-take, IsRunList-drop}
use Rattle.range_arena.proofs.Uptos.{none_on}
use Rattle.range_arena.proofs.parts.part_upto.Goals as goal
use Rattle.range_arena.proofs.parts.part_upto.Goals.{then-end-eq0-via-then-end-eq0, then-end-eq0-via-else-end-eq0+then-not-is_same}

pub returns-then-end-eq0-clause-front : goal.returns-then-end-eq0-clause-front
returns-then-end-eq0-clause-front c =
    let file = c.args.file.now in
    let rs = c.args.runs.now.list in
    let end = c.place_between-end.result in
    let p = c.place_between-end.ensures in
    let u = p.upto in
    let n = c.len.ensures.len in
    elim c.then-end-eq0.branch [
      | then-end-eq0-via-then-end-eq0 w ↦ let z : end ≡ 0 = w.if-end-eq0.true in subst (λ m. AllByRecursion (λ r. before_file file r ≡ true) (take m rs)) (sym z) tt
      | then-end-eq0-via-else-end-eq0+then-not-is_same w ↦
          let z = w.if-end-eq0.false in
          let o : same_file w.get.result.now.file file ≡ false = sym w.is_same.ensures ∙ w.if-not-is_same.true in
          none_on rs c.args.runs.now.sorted file c.args.byte end (end - 1) w.get.result.now p.place (omega arith) (omega arith) (omega arith) w.get.ensures o
    ]

pub returns-clause-front : goal.returns-clause-front
returns-clause-front c =
    let file = c.args.file.now in
    let rs = c.args.runs.now.list in
    let end = c.place_between-end.result in
    let begin = c.partition_point-begin.result in
    let b = c.partition_point-begin.ensures.bound in
    let p = c.partition_point-begin.ensures.place (before_file file) (λ x b k. search rules) (before_file_parted file _ (IsRunList-take _ (end - 0) (IsRunList-drop rs 0 c.args.runs.now.sorted))) in
    subst (AllByRecursion (λ r. before_file file r ≡ true)) (take-take begin (end - 0) rs (omega arith)) p.below
