use Rattle.std.proofs.Common.{subst}
use Rattle.std.specs.Ordering.{nat_cmp}
use Rattle.range_table.specs.Settings.{IsOrdered}
use Rattle.range_table.proofs.Ascents.{AreRuns-moved}
use Rattle.range_table.proofs.ordered.put_in_order.Goals as goal

pub returns : goal.returns
returns g c = λ e held a.
    let order = g.O.OwnerOrder.order c.args.owners.now in
    let ordered = subst (IsOrdered order) c.as_slice.ensures.value (c.are_ordered.ensures e) in
    AreRuns-moved nat_cmp order held c.args.runs.now.items c.sort_unstable_by.new.self.items c.sort_unstable_by.ensures.permutation a ordered
