use Rattle.std.proofs.Common.{[], ◌∷◌, refl, ap, subst, ◌∙◌, arith, rules, IsTrue}
use Rattle.sqlite.specs.Held.{state}
use Rattle.sqlite.specs.Values.{bound_value}
use Rattle.sqlite.specs.State.{HasCleanDisk}
use Rattle.sqlite.specs.Effect.{Database}
use Rattle.definitions.specs.Hosts.{Hosts}
use Rattle.sql_transactions.proofs.Results.{on_then}
use Rattle.hosts_sql.specs.Maps.{with_own}
use Rattle.hosts_sql.specs.Placing.{Behind}
use Rattle.hosts_sql.specs.declared.tables.TablesVersion.TheVariants.{First}
use Rattle.hosts_sql.proofs.AddressTable.{makes, behind_table}
use Rattle.hosts_sql.proofs.Commits.{CommitsWork, commits_work, hosts_by_work}
use Rattle.hosts_sql.proofs.Whole.{IsUpgraded, Moves, MovesGiven, moved, upgraded_makes}
use Rattle.hosts_sql.proofs.upgrade.upgrade.Goals as goal

pub returns : goal.returns
returns g c =
    let old = state g.S.Store c.args.conn.now in
    let own = c.args.own in
    let ran : CommitsWork (Behind makes c.args.addresses (Moves own)) old (state g.S.Store c.transact_behind.new.conn) c.transact_behind.result = subst (λ v. CommitsWork (Behind makes c.args.addresses (MovesGiven (bound_value v ∷ []))) old (state g.S.Store c.transact_behind.new.conn) c.transact_behind.result) c.params-to_sql.ensures (commits_work c.transact_behind.result c.transact_behind.ensures.ok c.transact_behind.ensures.crash) in
    let does : HasCleanDisk old → IsTrue old.is_open → (to : Database) → Behind makes c.args.addresses (Moves own) old.committed to → IsUpgraded own old.committed to = λ clean is_open to work.
    let first = behind_table First (Moves own) c.args.addresses old.committed to (c.requires.tables clean is_open) (c.schema-schema.ensures.live is_open).1 (c.requires.lacking clean is_open) work in
    let up = moved own first.0 to first.1.whole first.1.sound first.2 in
    record { whole = up.whole; rows = up.rows ∙ ap (with_own own) first.1.rows; emptied = up.emptied } in
    let wrote = hosts_by_work (with_own own) (λ (h : Hosts). record h { own = own }) (λ clean is_open to work. (upgraded_makes own old.committed to (does clean is_open to work), refl)) ran in
    record {
      ok = wrote.ok;
      emptied = λ clean. on_then c.transact_behind.result (ran.ok clean) (λ done. (does (omega (arith, clean, ran.crash.clean)) done.was_open _ done.work).emptied);
      err = search rules;
      crash = wrote.crash;
    }
