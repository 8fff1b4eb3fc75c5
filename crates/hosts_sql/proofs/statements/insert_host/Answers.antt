use Rattle.std.proofs.Common.{◌≡◌, None, sym, subst, w32, rules}
use Rattle.std.proofs.lemmas.Int.{to_z-of_z}
use Rattle.std.specs.FinMap.{get}
use Rattle.sqlite.specs.Held.{state}
use Rattle.definitions.specs.Hosts.{Hosts, after_store, Monitor}
use Rattle.hosts_sql.specs.Maps.{Rows, made_now, with_host}
use Rattle.hosts_sql.specs.Placing.{Behind}
use Rattle.hosts_sql.specs.Tables.{monitor_text}
use Rattle.sql_transactions.specs.Work.{Ran}
use Rattle.hosts_sql.specs.Wrote.{rows_in}
use Rattle.hosts_sql.proofs.Monitor.{params}
use Rattle.hosts_sql.proofs.Placed.{puts, behind_address}
use Rattle.hosts_sql.proofs.Rows.{makes_then, made_host}
use Rattle.hosts_sql.proofs.Listed.{no_host, monitored_at}
use Rattle.hosts_sql.proofs.Commits.{CommitsWork, commits_work, hosts_by_work}
use Rattle.hosts_sql.proofs.statements.insert_host.Goals as goal

pub returns : goal.returns
returns g c =
    let old = state g.S.Store c.args.conn.now in
    let host = made_now c.args.epoch c.args.seen in
    let name = c.args.name.now in
    let ran : CommitsWork (Behind puts c.args.address (Ran monitor_text (params name host))) old (state g.S.Store c.transact_behind.new.conn) c.transact_behind.result = rw (c.params-to_sql.ensures, c.params-to_sql-2.ensures, c.params-to_sql-3.ensures, c.params-to_sql-4.ensures, to_z-of_z w32 c.args.seen c.ranges.seen) at (commits_work c.transact_behind.result c.transact_behind.ensures.ok c.transact_behind.ensures.crash) in
    let wrote = hosts_by_work (with_host name host) (λ (h : Hosts). after_store h (Monitor name c.args.seen)) (λ clean is_open to work.
    let none = c.requires.new clean is_open in
    let put = behind_address (Ran monitor_text (params name host)) c.args.address old.committed to (c.requires.tables clean is_open) (c.requires.addressed clean is_open) work in
    let free = subst (λ (r : Rows). get r.hosts name ≡ None) (sym put.1.rows) (no_host (rows_in old).hosts name none) in
    (makes_then (λ r. r) (with_host name host) old.committed put.0 to put.1 (made_host name host put.0 to put.1.whole free put.2), monitored_at (rows_in old) name c.args.epoch c.args.seen (c.requires.own clean is_open) none)) ran in
    record { ok = wrote.ok; err = search rules; crash = wrote.crash }
