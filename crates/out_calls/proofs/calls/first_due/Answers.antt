use Rattle.std.proofs.Common.{rules, tests, ◌∙◌}
use Rattle.std.proofs.lemmas.Iterator.{YieldsList-from_slice}
use Rattle.std.proofs.lemmas.Iterator.Search.{position_from_yields_List}
use Rattle.out_calls.proofs.Sendings.{due}
use Rattle.out_calls.proofs.Order.{place_or_length}
use Rattle.out_calls.proofs.calls.first_due.Goals as goal

pub returns : goal.returns
returns c =
    let at = position_from_yields_List due _ _ c.position.result c.position.ensures.ran (YieldsList-from_slice c.args.calls.now cc) (λ x b q k. search (rules, tests)) in
    c.unwrap_or.ensures ∙ place_or_length c.args.calls.now c.position.result at
