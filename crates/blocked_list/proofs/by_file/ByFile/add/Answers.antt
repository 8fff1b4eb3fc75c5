use Rattle.std.proofs.Common.{◌≡◌, ◌++◌, ◌∷◌, [], ◌+◌, suc, length, take, drop, sym, ap, subst, arith, ◌∙◌}
use Rattle.std.proofs.lemmas.List.{length-append}
use Rattle.range_table.specs.declared.run.Run.{Run}
use Rattle.blocked_list.specs.ByFile.{AreByFile, IsIndex, IsPoint, file_at}
use Rattle.blocked_list.proofs.Places.{whole_written}
use Rattle.blocked_list.proofs.Parts.{file_there}
use Rattle.blocked_list.proofs.Indexed.{is_upto, index_more}
use Rattle.blocked_list.proofs.by_file.ByFile.add.Goals as goal

pub count_upto-at-requires : goal.count_upto-at-requires
count_upto-at-requires c = subst (AreByFile (file_at c.args.waiters.now)) (sym (c.as_slice.ensures.value ∙ c.self.view_is)) c.requires.before.by_file

pub returns : goal.returns
returns c =
    let file = file_at c.args.waiters.now in
    let n = c.args.place in
    let at = c.count_upto-at.result in
    let ps = c.self.inside.places.items in
    let same : c.as_slice.result.now ≡ ps = c.as_slice.ensures.value in
    let index : IsIndex file n ps = subst (IsIndex file n) (sym c.self.view_is) c.requires.before in
    let f = file_there c.args.waiters.now n c.index-waiters-place.result c.requires.there c.index-waiters-place.is in
    let here : c.wanted.result.now.file ≡ file n = ap (λ (r : Run). r.file) c.wanted.ensures.wanted ∙ sym f in
    let point : IsPoint (is_upto file (file n)) ps at = subst (λ g. IsPoint (is_upto file g) ps at) here (subst (λ qs. IsPoint (is_upto file c.wanted.result.now.file) qs at) same c.count_upto-at.ensures.point) in
    let new : c.bring_last.new.places ≡ take at ps ++ n ∷ drop at ps = c.bring_last.ensures ps n (c.as_mut_slice.ensures.value ∙ c.push_reserved.ensures.items) in
    let more = index_more file n ps at index point in
    let long : length c.bring_last.new.places ≡ c.push_reserved.new.self.len = (let a = ap length new in let m = more.many in let b = ap length c.push_reserved.ensures.items in let d = length-append ps (n ∷ []) in let ok = c.push_reserved.new.self.ok.0 in let i = index.many in omega arith) in
    let one : suc n ≡ n + 1 = omega arith in
    rw (whole_written c.push_reserved.new.self.len c.bring_last.new.places (drop (length c.bring_last.new.places) c.push_reserved.new.self.items) long, new, ← one) more
