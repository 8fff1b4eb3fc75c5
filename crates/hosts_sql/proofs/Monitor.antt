-- What the statement of `monitor` does to the rows.
use Rattle.std.proofs.Common.{◌≡◌, ◌⊎◌, inl, inr, ℕ, ℤ, pos, List, [], ◌∷◌, Bool, true, false, cond, not, ◌&&◌, None, Some, Option, slice_get, Ok, Err, Result, refl, sym, ap, subst, ◌∙◌}
use Rattle.sqlite_value.specs.declared.value.Value.{Value}
use Rattle.sqlite_value.specs.declared.value.Value.TheVariants.{Null, Int, Blob}
use Rattle.sqlite_value.specs.Order.{Row}
use Rattle.sqlite_sql.specs.Term.{Term, lit, col}
use Rattle.sqlite_sql.specs.Ops.{unary}
use Rattle.sqlite_schema.specs.declared.schema.Keys.{Keys}
use Rattle.sqlite_schema.specs.declared.schema.Kind.TheVariants.{Integer}
use Rattle.sqlite_schema.specs.declared.schema.Schema.{Schema}
use Rattle.sqlite_schema.specs.declared.schema.Table.{Table}
use Rattle.sqlite_schema.specs.declared.command.Source.{Source}
use Rattle.sqlite_schema.specs.declared.command.Source.TheVariants.{Values}
use Rattle.sqlite_schema.specs.declared.command.Command.TheVariants.{Insert}
use Rattle.sqlite_trees.specs.Tree.{Trees, put_row}
use Rattle.sqlite_trees.specs.Objects.{catalog_tree}
use Rattle.sqlite_rules.specs.Cast.{cast}
use Rattle.sqlite_rules.specs.Edit.{Edit, edit_of, edited, next_rowid, is_taken, are_fresh, Applies}
use Rattle.sqlite_rules.specs.declared.error.Rowids.TheVariants.{Chosen}
use Rattle.sqlite.specs.declared.run.Mode.{Mode}
use Rattle.sqlite_rules.specs.Action.{Writes}
use Rattle.sqlite.specs.Does.{Tally, Does, OnRows}
use Rattle.sqlite.specs.Rows.{Written, Sourced, stamped}
use Rattle.sqlite.specs.Effect.{Database, IsDatabase}
use Rattle.sqlite_catalog.specs.Listing.{IsSound}
use Rattle.hosts_sql.specs.Tables.{own_name, hosts_name, watches_name, hosts_table}
use Rattle.hosts_sql.specs.Schemas.{tree_in, IsHostSchema}
use Rattle.hosts_sql.specs.Maps.{Host}
use Rattle.hosts_sql.specs.declared.tables.TablesVersion.TheVariants.{Second}
use Rattle.hosts_sql.proofs.Places.{own_at, hosts_at, watches_at, tables_of, has_hosts, trees_apart, own_not_hosts, hosts_not_watches, on_table, one_change, stays, list_stays}

abbrev pub stored : Value → List ℕ → Host → Row
stored id name host = id ∷ Blob name ∷ Int (pos host.epoch) ∷ Int host.seen ∷ Int (pos host.quota) ∷ []

abbrev pub terms : List Term
terms = lit Null ∷ col 0 0 ∷ col 0 1 ∷ col 0 2 ∷ col 0 3 ∷ []

abbrev pub params : List ℕ → Host → Row
params name host = Blob name ∷ Int (pos host.epoch) ∷ Int host.seen ∷ Int (pos host.quota) ∷ []

-- the table has one more row, and the other tables are as they were
pub record Grown (schema : Schema) (row : Row) (old new : Trees) : Type 0 where
  pub rows : new (tree_in schema hosts_name) ≡ put_row row (old (tree_in schema hosts_name))
  pub fresh : is_taken (old (tree_in schema hosts_name)) row ≡ false
  pub own : new (tree_in schema own_name) ≡ old (tree_in schema own_name)
  pub watches : new (tree_in schema watches_name) ≡ old (tree_in schema watches_name)
  pub listed : new catalog_tree ≡ old catalog_tree

either : (b : Bool) (x : Value) → cond b x x ≡ x
either true x = refl
either false x = refl

pub cast_null : cast Integer Null ≡ Null
unfolding unary
cast_null = either _ Null

pub cast_number : (n : ℤ) → cast Integer (Int n) ≡ Int n
unfolding unary
cast_number n = either _ (Int n)

-- a part that gave a value did not stop on the way
pub went : {B E R : Type 0} {b : B} {Stops : E → Type 0} → ((stop : E) × Stops stop × (Ok b ≡ Err stop)) ⊎ R → R
went (inl stopped) = absurd (let e = stopped.2 in cc)
went (inr on) = on

pub same_value : {B E : Type 0} {a b : B} → ◌≡◌ {A = Result B E} (Ok a) (Ok b) → a ≡ b
same_value e = cc

-- an INSERT that went through is one edit of a table that has no AUTOINCREMENT
pub inserted : (limit : Option ℕ) (mode : Mode) (params : Row) (schema : Schema) (t : Table) (at : ℕ) (from : Source) (db : Trees) (tally : Tally) (after : Database)
    → OnRows (record { limit = limit; keys = mode.keys; schema = schema; table = record t { is_counted = false }; params = params }) mode None (Insert at from) db (Ok (tally, after))
    → (after.schema ≡ schema) × (rows : List Row) × Sourced limit (record { schema = schema; trees = db }) (stamped (record t { is_counted = false }) params) from (Ok rows) × Writes schema mode.keys db (edit_of db (record t { is_counted = false }) [] Chosen 0 rows) (Ok after.trees)
inserted limit mode params schema t at from db tally after ran =
    let done = went ran in
    let now = ap (λ (p : Tally × Database). p.1) (same_value (went (went done.2).2).2) in
    let given = went done.1 in
    let written = went (went given.2).2 in
    let counted = went written.2 in
    let trees : done.0.trees ≡ written.0 = ap (λ (it : Written). it.trees) (same_value counted.2) ∙ same_value counted.1 in
    let same : after.trees ≡ written.0 = ap (λ (d : Database). d.trees) now ∙ trees in
    (ap (λ (d : Database). d.schema) now, given.0, given.1, subst (λ trees. Writes schema mode.keys db (edit_of db (record t { is_counted = false }) [] Chosen 0 given.0) (Ok trees)) (sym same) written.1)

pub untaken : (b : Bool) → (not b && true) ≡ true → b ≡ false
untaken true h = absurd cc
untaken false h = refl

abbrev source : List ℕ → Host → Row
source name host = Null ∷ params name host

abbrev the_edit : ℕ → Trees → List ℕ → Host → Edit
the_edit tree db name host = edit_of db (hosts_table tree) [] Chosen 0 (source name host ∷ [])

news_is : (tree : ℕ) (db : Trees) (name : List ℕ) (host : Host) → (the_edit tree db name host).news ≡ stored (Int (next_rowid (db tree))) name host ∷ []
news_is tree db name host = rw (cast_null, cast_number (pos host.epoch), cast_number host.seen, cast_number (pos host.quota))

module _ (schema : Schema) (h : IsHostSchema Second schema) where
  grown : (keys : Keys) (db next : Trees) (name : List ℕ) (host : Host) → IsSound schema next → Applies schema keys db (the_edit (tree_in schema hosts_name) db name host) next
      → Grown schema (stored (Int (next_rowid (db (tree_in schema hosts_name)))) name host) db next
  grown keys db next name host sound a =
      let tree = tree_in schema hosts_name in
      let news = news_is tree db name host in
      let row = stored (Int (next_rowid (db tree))) name host in
      let tables = tables_of Second schema h in
      let hosts = has_hosts schema h in
      record {
        rows = a.rows ∙ ap (λ all. edited db (record { table = hosts_table tree; gone = []; news = all })) news;
        fresh = untaken (is_taken (db tree) row) (subst (λ all. are_fresh (db tree) all ≡ true) news a.fresh);
        own = stays schema keys db next (the_edit tree db name host) (own_at schema) a tables.own (trees_apart schema (own_at schema) (hosts_at schema) tables.own hosts own_not_hosts);
        watches = stays schema keys db next (the_edit tree db name host) (watches_at schema) a tables.watches (λ e. trees_apart schema (hosts_at schema) (watches_at schema) hosts tables.watches hosts_not_watches (sym e));
        listed = list_stays schema keys db next (the_edit tree db name host) a hosts sound;
      }

  pub does_monitor : (limit : Option ℕ) (mode : Mode) (at : ℕ) (name : List ℕ) (host : Host) (db : Trees) (text : List ℕ) (tally : Tally) (after : Database) → slice_get schema.tables at ≡ Some (hosts_at schema) → IsDatabase after
      → Does limit mode (params name host) (record { schema = schema; trees = db }) text None (Insert at (Values terms 5)) (Ok (tally, after))
      → (after.schema ≡ schema) × Grown schema (stored (Int (next_rowid (db (tree_in schema hosts_name)))) name host) db after.trees
  does_monitor limit mode at name host db text tally after got sound does =
      let tree = tree_in schema hosts_name in
      let ran = on_table limit mode (params name host) (record { schema = schema; trees = db }) at (hosts_table tree) (Insert at (Values terms 5)) (Ok (tally, after)) got does in
      let done = inserted limit mode (params name host) schema (hosts_table tree) at (Values terms 5) db tally after ran in
      let applied = one_change schema _ db after.trees (edit_of db (hosts_table tree) [] Chosen 0 done.1) (tables_of Second schema h).no_other done.3 in
      (done.0, grown mode.keys db after.trees name host (subst (λ s. IsSound s after.trees) done.0 sound) (subst (λ all. Applies schema mode.keys db (edit_of db (hosts_table tree) [] Chosen 0 all) after.trees) done.2.1 applied))
