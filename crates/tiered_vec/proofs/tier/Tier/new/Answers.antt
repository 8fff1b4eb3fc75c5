use Rattle.std.proofs.Common.{◌∙◌, sym, arith, append-nil}
use Rattle.std.specs.List.{range_with_len}
use Rattle.std.proofs.lemmas.List.{same_lists, get_or_default}
use Rattle.std.proofs.lemmas.List.FromFn.{length-range_with_len, get_or-range_with_len}
use Rattle.tiered_vec.proofs.tier.Tier.new.Goals as goal

pub returns : goal.returns
returns c =
    let i = c.loop-i.invariant in
    let n = i.long in
    let e = c.loop-i-test.false in
    append-nil c.loop-i.cells ∙ same_lists c.loop-i.cells (range_with_len c.args.first 256) (n ∙ sym (length-range_with_len c.args.first 256))
    (λ k d l. get_or_default c.loop-i.cells k d 0 l ∙ i.filled k (omega arith) ∙ sym (get_or-range_with_len c.args.first 256 k d (omega arith)))
