use Rattle.std.proofs.Common.{◌≡◌, false, Some, sym, ap, subst, ◌∙◌, rules, of_calls}
use Rattle.std.proofs.lemmas.Fn.{always_returns_same}
use Rattle.std.specs.Prelude.{slice_get, option_copied}
use Rattle.blocked_list.specs.ByFile.{file_at}
use Rattle.blocked_list.proofs.Indexed.{is_upto, upto_parted, none_upto}
use Rattle.blocked_list.proofs.by_file.count_upto.Goals as goal

pub returns-in-Some-clause-point : goal.returns-in-Some-clause-point
returns-in-Some-clause-point c =
    let file = file_at c.args.waiters.now in
    c.partition_point.ensures.partitioned (is_upto file c.args.file.now) (always_returns_same _ _ _ (λ a r f k. search (rules, of_calls))) (upto_parted file c.args.file.now c.args.places.now c.requires)

pub returns-in_default-clause-point : goal.returns-in_default-clause-point
returns-in_default-clause-point c =
    let file = file_at c.args.waiters.now in
    let told = c.first.ensures.value in
    none_upto file c.args.file.now c.args.places.now c.requires (λ p qs e.
    let same : Some c.in-Some.place.now ≡ Some p = ap option_copied (sym c.in-Some.is) ∙ told ∙ ap (λ xs. slice_get xs 0) e in
    let k : c.in-Some.place.now ≡ p = cc in
    subst (λ q. is_upto file c.args.file.now q ≡ false) k (sym c.is_upto.ensures ∙ c.if-is_upto.false))
