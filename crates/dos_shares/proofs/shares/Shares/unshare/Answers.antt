use Rattle.std.proofs.Common.{rules, not, ap, ◌∙◌}
use Rattle.std.proofs.lemmas.Fn.{filter_same}
use Rattle.definitions.specs.Bytes.{list_without}
use Rattle.definitions.specs.Shares.{Share, is_same_place}
use Rattle.definitions.proofs.Lists.{filter-not}
use Rattle.dos_shares.proofs.shares.Shares.unshare.Goals as goal

pub returns : goal.returns
returns c deny access =
    let taken : Share = record { file = c.args.file.now; name = c.args.caller_name.now; oh = c.args.oh.now; deny = deny; access = access } in
    filter_same _ (λ (s : Share). not (is_same_place taken s)) _ (λ x b f' k. search rules) _ _ c.retain.ensures.filtered
    ∙ filter-not (is_same_place taken) c.self.inside.held.items
    ∙ ap (list_without (is_same_place taken)) c.self.view_is
