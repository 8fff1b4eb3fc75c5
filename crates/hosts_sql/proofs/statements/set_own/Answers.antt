use Rattle.std.proofs.Common.{pos, [], ◌∷◌, refl, ap, ◌∙◌, rules}
use Rattle.sqlite_value.specs.declared.value.Value.TheVariants.{Int}
use Rattle.sqlite.specs.Held.{state}
use Rattle.definitions.specs.Hosts.{Hosts}
use Rattle.hosts_sql.specs.Maps.{with_own}
use Rattle.hosts_sql.specs.Placing.{Behind}
use Rattle.hosts_sql.specs.Tables.{set_own_text}
use Rattle.hosts_sql.specs.declared.tables.TablesVersion.TheVariants.{Second}
use Rattle.sql_transactions.specs.Work.{Ran}
use Rattle.hosts_sql.proofs.AddressTable.{makes, behind_table}
use Rattle.hosts_sql.proofs.Rows.{Makes}
use Rattle.hosts_sql.proofs.Update.{made_own}
use Rattle.hosts_sql.proofs.Commits.{CommitsWork, commits_work, hosts_by_work}
use Rattle.hosts_sql.proofs.statements.set_own.Goals as goal

pub returns : goal.returns
returns g c =
    let old = state g.S.Store c.args.conn.now in
    let own = c.args.own in
    let Work = Ran set_own_text (Int (pos own) ∷ []) in
    let ran : CommitsWork (Behind makes c.args.addresses Work) old (state g.S.Store c.transact_behind.new.conn) c.transact_behind.result = rw (c.params-to_sql.ensures) at (commits_work c.transact_behind.result c.transact_behind.ensures.ok c.transact_behind.ensures.crash) in
    let wrote = hosts_by_work (with_own own) (λ (h : Hosts). record h { own = own }) (λ clean is_open to work.
    let first = behind_table Second Work c.args.addresses old.committed to (c.requires.tables clean is_open) (c.schema-schema.ensures.live is_open).1 (c.requires.lacking clean is_open) work in
    let set = made_own own first.0 to first.1.whole first.2 in
    let made : Makes (with_own own) old.committed to = record { whole = set.whole; rows = set.rows ∙ ap (with_own own) first.1.rows } in
    (made, refl)) ran in
    record { ok = wrote.ok; err = search rules; crash = wrote.crash }
