use Rattle.std.proofs.Common.{sym, ap, subst, ◌∙◌}
use Rattle.definitions.specs.Bytes.{IsAscending, is_any}
use Rattle.definitions.specs.Hosts.{row_cmp, is_named}
use Rattle.hosts_db.proofs.RowPlaces.{has_row_at}
use Rattle.hosts_db.proofs.host_rows.HostRows.has_host.Goals as goal

pub returns : goal.returns
returns c =
    let same = c.hosts.ensures.value in
    c.is_ok.ensures.value
    ∙ has_row_at c.hosts.result.now c.args.name.now (subst (IsAscending row_cmp) (sym same) c.hosts.ensures.in_order.rows) _ c.place_of_host.ensures
    ∙ ap (is_any (is_named c.args.name.now)) same
