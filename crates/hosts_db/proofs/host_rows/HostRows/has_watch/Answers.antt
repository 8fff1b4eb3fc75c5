use Rattle.std.proofs.Common.{Some, ap, ◌∙◌}
use Rattle.definitions.specs.Bytes.{is_any}
use Rattle.definitions.specs.Hosts.{is_watch}
use Rattle.hosts_db.proofs.RowPlaces.{has_watch_at}
use Rattle.hosts_db.proofs.host_rows.HostRows.has_watch.Goals as goal

pub returns : goal.returns
returns c =
    c.is_ok.ensures.value
    ∙ has_watch_at c.watches.result.now c.args.mon_name.now c.args.my_id.now _ c.place_of_watch.ensures
    ∙ ap (is_any (is_watch (Some c.args.mon_name.now) c.args.my_id.now)) c.watches.ensures.value
