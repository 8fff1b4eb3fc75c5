use Rattle.std.proofs.Common.{rules, tests, ap, ◌∙◌}
use Rattle.std.proofs.lemmas.Iterator.{YieldsList-from_slice}
use Rattle.std.proofs.lemmas.Iterator.Search.{any_from_yields_List}
use Rattle.definitions.specs.Bytes.{is_any}
use Rattle.definitions.specs.Shares.{is_same_place}
use Rattle.definitions.proofs.Lists.{any_found}
use Rattle.dos_shares.proofs.shares.Shares.has_place.Goals as goal

pub returns : goal.returns
returns c =
    any_from_yields_List (is_same_place c.args.share.now) _ _ c.any.result c.any.ensures.ran (YieldsList-from_slice c.self.inside.held.items cc) (λ x b q k. search (rules, tests))
    ∙ any_found (is_same_place c.args.share.now) c.self.inside.held.items
    ∙ ap (is_any (is_same_place c.args.share.now)) c.self.view_is
