use Rattle.std.proofs.Common.{◌≡◌, ◌++◌, ap, sym, subst, ◌∙◌}
use Rattle.std.specs.Ordering.{nat_cmp}
use Rattle.range_table.specs.Settings.{mode_at, AreRuns}
use Rattle.held_locks.proofs.listing.Listing.of.Goals as goal

pub returns : goal.returns
returns g c =
    let held = mode_at (g.R.RangeTable.settings c.args.table.now) in
    let a = c.copy_runs.ensures in
    let e : c.copy_runs.new.list.items ≡ a.0 = a.2 ∙ ap (λ xs. xs ++ a.0) c.in-Ok.ensures.items in
    c.put_in_order.ensures c.if-not-put_in_order.false held (subst (AreRuns nat_cmp held) (sym e) a.1)
