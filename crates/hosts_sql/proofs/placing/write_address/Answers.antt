use Rattle.std.proofs.Common.{refl, arith, rules, IsTrue}
use Rattle.sqlite.specs.Effect.{Database}
use Rattle.sqlite.specs.State.{HasCleanDisk}
use Rattle.sqlite.specs.Held.{state}
use Rattle.sql_transactions.proofs.Results.{on_then}
use Rattle.definitions.specs.Hosts.{Hosts}
use Rattle.hosts_sql.proofs.Commits.{CommitsWork, commits_work, hosts_by_work}
use Rattle.hosts_sql.proofs.Placed.{puts, put_address}
use Rattle.hosts_sql.proofs.placing.write_address.Goals as goal

pub returns : goal.returns
returns g c =
    let old = state g.S.Store c.args.conn.now in
    let put = c.args.address in
    let ran : CommitsWork (puts put) old (state g.S.Store c.transact.new.conn) c.transact.result = commits_work c.transact.result c.transact.ensures.ok c.transact.ensures.crash in
    let does = λ (clean : HasCleanDisk old) (is_open : IsTrue old.is_open) (to : Database) (work : puts put old.committed to). put_address put.name.now put.text.now old.committed to (c.requires.tables clean is_open) (c.requires.there clean is_open refl) work in
    let wrote = hosts_by_work (λ r. r) (λ (h : Hosts). h) (λ clean is_open to work. ((does clean is_open to work).0, refl)) ran in
    record {
      put = λ clean. on_then c.transact.result (ran.ok clean) (λ done. (does (omega (arith, clean, ran.crash.clean)) done.was_open _ done.work).1);
      ok = wrote.ok;
      err = search rules;
      crash = wrote.crash;
    }
