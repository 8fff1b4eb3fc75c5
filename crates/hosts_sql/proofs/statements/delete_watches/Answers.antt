use Rattle.std.proofs.Common.{Some, None, rules}
use Rattle.sqlite.specs.Held.{state}
use Rattle.definitions.specs.Hosts.{Hosts, after_store, Unwatched}
use Rattle.hosts_sql.specs.Maps.{without_watches}
use Rattle.hosts_sql.specs.Tables.{delete_watch_text, delete_watches_text}
use Rattle.sql_transactions.specs.Work.{Ran}
use Rattle.hosts_sql.specs.Wrote.{rows_in}
use Rattle.hosts_sql.specs.Given.{my_given, watch_given}
use Rattle.hosts_sql.proofs.Fewer.{made_without_watch, made_without_watches}
use Rattle.hosts_sql.proofs.Commits.{CommitsWork, commits_work, hosts_by_work}
use Rattle.hosts_sql.proofs.Changed.{watches_gone}
use Rattle.hosts_sql.proofs.statements.delete_watches.Goals as goal

pub returns-in-Some : goal.returns-in-Some
returns-in-Some g c =
    let old = state g.S.Store c.args.conn.now in
    let mon = c.in-Some.name.now in
    let my = c.args.my_id.now in
    let ran : CommitsWork (Ran delete_watch_text (watch_given mon my)) old (state g.S.Store c.run_one.new.conn) c.run_one.result = rw c.watch_key.ensures at (commits_work c.run_one.result c.run_one.ensures.ok c.run_one.ensures.crash) in
    let wrote = hosts_by_work (without_watches (Some mon) my) (λ (h : Hosts). after_store h (Unwatched (Some mon) my)) (λ clean is_open to work. (made_without_watch mon my old.committed to (c.requires.tables clean is_open) work, watches_gone (Some mon) my (rows_in old))) ran in
    rw c.in-Some.is (record { ok = wrote.ok; err = search rules; crash = wrote.crash })

pub returns-in-None : goal.returns-in-None
returns-in-None g c =
    let old = state g.S.Store c.args.conn.now in
    let my = c.args.my_id.now in
    let ran : CommitsWork (Ran delete_watches_text (my_given my)) old (state g.S.Store c.run_one-in-None.new.conn) c.run_one-in-None.result = rw c.watcher.ensures at (commits_work c.run_one-in-None.result c.run_one-in-None.ensures.ok c.run_one-in-None.ensures.crash) in
    let wrote = hosts_by_work (without_watches None my) (λ (h : Hosts). after_store h (Unwatched None my)) (λ clean is_open to work. (made_without_watches my old.committed to (c.requires.tables clean is_open) work, watches_gone None my (rows_in old))) ran in
    rw c.in-None.is (record { ok = wrote.ok; err = search rules; crash = wrote.crash })
