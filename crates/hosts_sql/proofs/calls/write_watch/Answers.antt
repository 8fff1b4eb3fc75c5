use Rattle.std.proofs.Common.{◌≡◌, true, rules}
use Rattle.definitions.specs.Hosts.{Hosts, has_row, after_store, Watched}
use Rattle.hosts_sql.proofs.Commits.{commits_hosts}
use Rattle.hosts_sql.proofs.AsKept.{hosts_as_kept, watch_of_host}
use Rattle.hosts_sql.proofs.calls.write_watch.Goals as goal

pub returns-then-has_host : goal.returns-then-has_host
returns-then-has_host g c =
    let there : has_row c.args.rows.now c.args.mon.now ≡ true = search rules in
    let same = watch_of_host c.args.rows.now c.args.mon.now c.args.my_id.now c.args.private.now there in
    let wrote = hosts_as_kept (λ (h : Hosts). after_store h (Watched c.args.mon.now c.args.my_id.now c.args.private.now)) c.args.rows.now c.requires.kept same (commits_hosts c.put_watch.result c.put_watch.ensures.ok c.put_watch.ensures.crash) in
    record { ok = wrote.ok; err = search rules; crash = wrote.crash }
