use Rattle.std.proofs.Common.{◌≡◌, pos, None, Some, sym, subst, rules}
use Rattle.std.specs.FinMap.{get}
use Rattle.sqlite.specs.Held.{state}
use Rattle.definitions.specs.Hosts.{Hosts, after_store, Watched}
use Rattle.hosts_sql.specs.Maps.{Rows, WatchKey, made_now, with_host, with_watch, without_watches}
use Rattle.hosts_sql.specs.Placing.{Behind}
use Rattle.hosts_sql.specs.Tables.{monitor_text, watch_text, delete_watch_text}
use Rattle.sql_transactions.specs.Work.{RanThree}
use Rattle.hosts_sql.specs.Wrote.{rows_in}
use Rattle.hosts_sql.proofs.Monitor.{params}
use Rattle.hosts_sql.specs.Given.{watch_given, watch_params}
use Rattle.hosts_sql.proofs.Listed.{no_host}
use Rattle.hosts_sql.proofs.Commits.{CommitsWork, behind_alike, commits_alike, commits_work, hosts_by_work}
use Rattle.hosts_sql.proofs.Placed.{puts, behind_address}
use Rattle.hosts_sql.proofs.Rows.{makes_then}
use Rattle.hosts_sql.proofs.Changed.{host_and_watch_put, host_and_watch_listed}
use Rattle.hosts_sql.proofs.statements.put_host_and_watch.Goals as goal

pub returns : goal.returns
returns g c =
    let old = state g.S.Store c.args.conn.now in
    let key : WatchKey = record { mon = c.args.mon.now; my = c.args.my_id.now } in
    let private = c.args.private.now in
    let host = made_now c.args.epoch (pos 0) in
    let Work = RanThree monitor_text (params key.mon host) delete_watch_text (watch_given key.mon key.my) watch_text (watch_params key private) in
    let ran : CommitsWork (Behind puts c.args.address Work) old (state g.S.Store c.transact_behind.new.conn) c.transact_behind.result = commits_alike (behind_alike puts c.args.address _ Work (λ from to did. rw (c.params-to_sql.ensures, c.params-to_sql-2.ensures, c.params-to_sql-3.ensures, c.params-to_sql-4.ensures, c.watch_key-key.ensures, c.watch_row-row.ensures) at did)) (commits_work c.transact_behind.result c.transact_behind.ensures.ok c.transact_behind.ensures.crash) in
    let makes = λ (r : Rows). with_watch key private (without_watches (Some key.mon) key.my (with_host key.mon host r)) in
    let wrote = hosts_by_work makes (λ (h : Hosts). after_store h (Watched key.mon key.my private)) (λ clean is_open to work.
    let none = c.requires.new clean is_open in
    let put = behind_address Work c.args.address old.committed to (c.requires.tables clean is_open) (c.requires.addressed clean is_open) work in
    let free = subst (λ (r : Rows). get r.hosts key.mon ≡ None) (sym put.1.rows) (no_host (rows_in old).hosts key.mon none) in
    (makes_then (λ r. r) makes old.committed put.0 to put.1 (host_and_watch_put host key private put.0 to put.1.whole free put.2), host_and_watch_listed (rows_in old) key private c.args.epoch (c.requires.own clean is_open) none)) ran in
    record { ok = wrote.ok; err = search rules; crash = wrote.crash }
