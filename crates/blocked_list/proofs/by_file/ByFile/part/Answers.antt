use Rattle.std.proofs.Common.{◌≡◌, length, take, sym, ap, subst, ◌∙◌, rules, of_calls}
use Rattle.std.proofs.lemmas.Fn.{always_returns_same}
use Rattle.std.proofs.lemmas.List.{take_rest}
use Rattle.blocked_list.specs.ByFile.{AreByFile, IsIndex, IsPoint, file_at}
use Rattle.blocked_list.proofs.Indexed.{is_before, before_parted, by_file_drop, part_is}
use Rattle.blocked_list.proofs.by_file.ByFile.part.Goals as goal

pub count_upto-requires : goal.count_upto-requires
count_upto-requires c =
    let file = file_at c.args.waiters.now in
    let ps = c.as_slice-places.result.now in
    let begin = c.partition_point-begin.result in
    let same : ps ≡ c.args.self.now = c.as_slice-places.ensures.value ∙ c.self.view_is in
    subst (AreByFile file) (sym (take_rest ps begin)) (by_file_drop file begin ps (subst (AreByFile file) (sym same) c.requires.by_file))

pub returns : goal.returns
returns c =
    let file = file_at c.args.waiters.now in
    let ps = c.as_slice-places.result.now in
    let begin = c.partition_point-begin.result in
    let size = c.count_upto.result in
    let same : ps ≡ c.args.self.now = c.as_slice-places.ensures.value ∙ c.self.view_is in
    let index = subst (IsIndex file (length c.args.waiters.now)) (sym same) c.requires in
    let rest = take_rest ps begin in
    let first : IsPoint (is_before file c.args.file.now) ps begin = c.partition_point-begin.ensures.partitioned (is_before file c.args.file.now) (always_returns_same _ _ _ (λ a r f k. search (rules, of_calls))) (before_parted file c.args.file.now ps index.by_file) in
    let second = c.count_upto.ensures.point in
    ap (take size) rest ∙ part_is file (length c.args.waiters.now) ps c.args.file.now begin size index first (rw rest at second)
