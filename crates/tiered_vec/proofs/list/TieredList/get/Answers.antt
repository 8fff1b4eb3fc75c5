use Rattle.std.proofs.Common.{length, get_or, sym, ap, ◌∙◌}
use Rattle.tiered_vec.proofs.Pieces.{length_all, get_at}
use Rattle.tiered_vec.proofs.list.TieredList.get.Goals as goal

pub returns-clause-number : goal.returns-clause-number
returns-clause-number c =
    c.get.ensures ∙ sym (get_at c.self.inside.tiers.items c.args.at c.index.result.now 0 c.self.invariant c.requires c.index.ensures)
    ∙ ap (λ xs. get_or xs c.args.at 0) c.self.view_is

pub returns-clause-long : goal.returns-clause-long
returns-clause-long c = sym (ap length c.self.view_is) ∙ length_all c.self.inside.tiers.items c.self.invariant
