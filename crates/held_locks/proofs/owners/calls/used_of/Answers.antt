use Rattle.owner_ids.specs.Names.{names_of_owners, is_owned_by}
use Rattle.range_table.specs.Settings.{mode_at}
use Rattle.held_locks.proofs.OwnerCounting.{used_of_over, of_host}
use Rattle.held_locks.proofs.owners.calls.used_of.Goals as goal

pub returns : goal.returns
returns g c = λ settings h.
    let names = names_of_owners c.args.owners.now in
    used_of_over names (mode_at (g.T.RangeTable.settings c.args.table.now)) settings (is_owned_by names c.args.host.now) c.args.host.now c.used_of.result h (of_host names c.args.host.now) c.used_of.ensures
