use Rattle.std.proofs.Common.{sym, ◌∙◌}
use Rattle.range_table.proofs.Ascents.{list_ordered}
use Rattle.range_table.proofs.ordered.are_ordered.Goals as goal

pub returns-in-len1-up : goal.returns-in-len1-up
returns-in-len1-up g c = λ e.
    let owners = c.args.owners.now in
    list_ordered (g.O.OwnerOrder.order owners) (g.met.O.OwnerOrder.total owners) (g.met.O.OwnerOrder.exact owners) c.args.runs.now c.first-item.result c.in-len1-up.len_at_least c.first-item.is (sym c.ascend.ensures ∙ e)
