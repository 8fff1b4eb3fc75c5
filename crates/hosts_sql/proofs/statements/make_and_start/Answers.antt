use Rattle.std.proofs.Common.{◌≡◌, ℕ, false, refl, sym, subst, ◌∙◌, rules}
use Rattle.sqlite_schema.specs.declared.schema.Schema.{Schema}
use Rattle.sqlite.specs.Effect.{Database, IsDatabase}
use Rattle.sqlite.specs.Held.{state}
use Rattle.definitions.specs.Hosts.{Hosts}
use Rattle.hosts_sql.specs.Making.{MakesTable}
use Rattle.hosts_sql.specs.Maps.{with_own}
use Rattle.hosts_sql.specs.Placing.{has_addresses}
use Rattle.hosts_sql.specs.Tables.{no_schema, addresses_text}
use Rattle.hosts_sql.specs.declared.tables.TablesVersion.TheVariants.{Second}
use Rattle.hosts_sql.proofs.AddressTable.{made_addresses}
use Rattle.hosts_sql.proofs.Create.{MakesAll, started, started_tables, unlocated}
use Rattle.hosts_sql.proofs.Commits.{CommitsWork, commits_work, hosts_by_work}
use Rattle.hosts_sql.proofs.Rows.{Makes}
use Rattle.hosts_sql.proofs.statements.make_and_start.Goals as goal

-- the three tables, and then that of the addresses
abbrev MakesMore : ℕ → Database → Database → Type 0
MakesMore own from to = (mid : Database) × MakesAll own from mid × MakesTable addresses_text mid to

started_more : (own : ℕ) (a d : Database) → a.schema ≡ no_schema → IsDatabase a → MakesMore own a d → Makes (with_own own) a d
started_more own a d fresh sound work =
    let first = started own a work.0 fresh sound work.1 in
    let tables = started_tables own a work.0 fresh work.1 in
    let lacks = subst (λ (s : Schema). has_addresses s ≡ false) (sym tables.0) unlocated in
    let more = made_addresses Second work.0 d first.whole tables.1 lacks work.2 in
    record { whole = more.whole; rows = more.rows ∙ first.rows }

pub returns-in-Some : goal.returns-in-Some
returns-in-Some g c =
    let old = state g.S.Store c.args.conn.now in
    let own = c.args.own in
    let ran : CommitsWork (MakesMore own) old (state g.S.Store c.transact.new.conn) c.transact.result = rw c.params-to_sql.ensures at (commits_work c.transact.result c.transact.ensures.ok c.transact.ensures.crash) in
    let wrote = hosts_by_work (with_own own) (λ (h : Hosts). record h { own = own }) (λ clean is_open to work. (started_more own old.committed to (c.requires clean is_open) (c.schema-schema.ensures.live is_open).1 work, refl)) ran in
    record { ok = wrote.ok; err = search rules; crash = wrote.crash }

pub returns-in-None : goal.returns-in-None
returns-in-None g c =
    let old = state g.S.Store c.args.conn.now in
    let own = c.args.own in
    let ran : CommitsWork (MakesAll own) old (state g.S.Store c.transact-in-None.new.conn) c.transact-in-None.result = rw c.params-to_sql.ensures at (commits_work c.transact-in-None.result c.transact-in-None.ensures.ok c.transact-in-None.ensures.crash) in
    let wrote = hosts_by_work (with_own own) (λ (h : Hosts). record h { own = own }) (λ clean is_open to work. (started own old.committed to (c.requires clean is_open) (c.schema-schema.ensures.live is_open).1 work, refl)) ran in
    record { ok = wrote.ok; err = search rules; crash = wrote.crash }
