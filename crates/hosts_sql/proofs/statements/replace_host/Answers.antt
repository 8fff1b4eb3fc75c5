use Rattle.std.proofs.Common.{w32, rules}
use Rattle.std.proofs.lemmas.Int.{to_z-of_z}
use Rattle.sqlite.specs.Held.{state}
use Rattle.definitions.specs.Bytes.{list_with}
use Rattle.definitions.specs.Hosts.{Hosts, row_cmp}
use Rattle.hosts_sql.specs.Maps.{Host, with_host, without_host, host_row}
use Rattle.hosts_sql.specs.Tables.{monitor_text, delete_host_text}
use Rattle.sql_transactions.specs.Work.{RanTwo}
use Rattle.hosts_sql.specs.Wrote.{rows_in}
use Rattle.hosts_sql.proofs.Monitor.{params}
use Rattle.hosts_sql.proofs.Fewer.{host_given}
use Rattle.hosts_sql.proofs.Commits.{CommitsWork, commits_work, hosts_by_work}
use Rattle.hosts_sql.proofs.Changed.{replaced_host, host_replaced}
use Rattle.hosts_sql.proofs.statements.replace_host.Goals as goal

pub returns : goal.returns
returns g c =
    let old = state g.S.Store c.args.conn.now in
    let host : Host = record { epoch = c.args.epoch; seen = c.args.seen; quota = c.args.quota } in
    let ran : CommitsWork (RanTwo delete_host_text (host_given c.args.name.now) monitor_text (params c.args.name.now host)) old (state g.S.Store c.run_two.new.conn) c.run_two.result = rw (c.params-to_sql.ensures, c.params-to_sql-2.ensures, c.params-to_sql-3.ensures, c.params-to_sql-4.ensures, c.params-to_sql-5.ensures, to_z-of_z w32 c.args.seen c.ranges.seen) at (commits_work c.run_two.result c.run_two.ensures.ok c.run_two.ensures.crash) in
    let wrote = hosts_by_work (λ r. with_host c.args.name.now host (without_host c.args.name.now r)) (λ (h : Hosts). record h { rows = list_with row_cmp (host_row (c.args.name.now, host)) h.rows }) (λ clean is_open to work. (replaced_host c.args.name.now host old.committed to (c.requires.tables clean is_open) work, host_replaced c.args.name.now host (rows_in old))) ran in
    record { ok = wrote.ok; err = search rules; crash = wrote.crash }
