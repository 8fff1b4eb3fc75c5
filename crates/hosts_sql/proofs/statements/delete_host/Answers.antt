use Rattle.std.proofs.Common.{rules}
use Rattle.sqlite.specs.Held.{state}
use Rattle.definitions.specs.Bytes.{list_without}
use Rattle.definitions.specs.Hosts.{Hosts, is_named}
use Rattle.hosts_sql.specs.Maps.{without_host}
use Rattle.hosts_sql.specs.Tables.{delete_host_text}
use Rattle.sql_transactions.specs.Work.{Ran}
use Rattle.hosts_sql.specs.Wrote.{rows_in}
use Rattle.hosts_sql.proofs.Fewer.{host_given, made_without_host}
use Rattle.hosts_sql.proofs.Commits.{CommitsWork, commits_work, hosts_by_work}
use Rattle.hosts_sql.proofs.Changed.{host_gone}
use Rattle.hosts_sql.proofs.statements.delete_host.Goals as goal

pub returns : goal.returns
returns g c =
    let old = state g.S.Store c.args.conn.now in
    let ran : CommitsWork (Ran delete_host_text (host_given c.args.name.now)) old (state g.S.Store c.run_one.new.conn) c.run_one.result = rw (c.params-to_sql.ensures) at (commits_work c.run_one.result c.run_one.ensures.ok c.run_one.ensures.crash) in
    let wrote = hosts_by_work (without_host c.args.name.now) (λ (h : Hosts). record h { rows = list_without (is_named c.args.name.now) h.rows }) (λ clean is_open to work. (made_without_host c.args.name.now old.committed to (c.requires.tables clean is_open) work, host_gone c.args.name.now (rows_in old))) ran in
    record { ok = wrote.ok; err = search rules; crash = wrote.crash }
