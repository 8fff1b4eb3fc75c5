use Rattle.std.proofs.Common.{rules, not, ap, ◌∙◌}
use Rattle.std.proofs.lemmas.Fn.{filter_same}
use Rattle.definitions.specs.Bytes.{same_bytes, list_without}
use Rattle.definitions.specs.Shares.{Share}
use Rattle.definitions.proofs.Lists.{filter-not}
use Rattle.dos_shares.proofs.shares.Shares.drop_host.Goals as goal

pub returns : goal.returns
returns c =
    filter_same _ (λ (s : Share). not (same_bytes s.name c.args.name.now)) _ (λ x b f' k. search rules) _ _ c.retain.ensures.filtered
    ∙ filter-not (λ (s : Share). same_bytes s.name c.args.name.now) c.self.inside.held.items
    ∙ ap (list_without (λ (s : Share). same_bytes s.name c.args.name.now)) c.self.view_is
