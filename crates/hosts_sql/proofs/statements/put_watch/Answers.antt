use Rattle.std.proofs.Common.{Some, rules}
use Rattle.sqlite.specs.Held.{state}
use Rattle.definitions.specs.Bytes.{list_with}
use Rattle.definitions.specs.Hosts.{Hosts, watch_cmp}
use Rattle.hosts_sql.specs.Maps.{WatchKey, with_watch, without_watches, watch_row}
use Rattle.hosts_sql.specs.Tables.{watch_text, delete_watch_text}
use Rattle.sql_transactions.specs.Work.{RanTwo}
use Rattle.hosts_sql.specs.Wrote.{rows_in}
use Rattle.hosts_sql.specs.Given.{watch_given, watch_params}
use Rattle.hosts_sql.proofs.Commits.{CommitsWork, commits_work, hosts_by_work}
use Rattle.hosts_sql.proofs.Changed.{replaced_watch, watch_replaced}
use Rattle.hosts_sql.proofs.statements.put_watch.Goals as goal

pub returns : goal.returns
returns g c =
    let old = state g.S.Store c.args.conn.now in
    let key : WatchKey = record { mon = c.args.mon.now; my = c.args.my_id.now } in
    let private = c.args.private.now in
    let ran : CommitsWork (RanTwo delete_watch_text (watch_given key.mon key.my) watch_text (watch_params key private)) old (state g.S.Store c.run_two.new.conn) c.run_two.result = rw (c.watch_key-key.ensures, c.watch_row-row.ensures) at (commits_work c.run_two.result c.run_two.ensures.ok c.run_two.ensures.crash) in
    let wrote = hosts_by_work (λ r. with_watch key private (without_watches (Some key.mon) key.my r)) (λ (h : Hosts). record h { watches = list_with watch_cmp (watch_row (key, private)) h.watches }) (λ clean is_open to work. (replaced_watch key private old.committed to (c.requires.tables clean is_open) work, watch_replaced key private (rows_in old))) ran in
    record { ok = wrote.ok; err = search rules; crash = wrote.crash }
