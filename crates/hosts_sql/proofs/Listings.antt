-- What the list of objects tells of the tables.
use Rattle.std.proofs.Common.{◌≡◌, ℕ, ◌-◌, Bool, true, false, cond, List, [], ◌∷◌, map, filter, Some, None, option_map, refl, sym, ap, ◌∙◌, arith}
use Rattle.std.specs.Prelude.{find, unwrap_or}
use Rattle.std.specs.List.{AllZip}
use Rattle.sqlite_value.specs.Order.{Row, column, bytes}
use Rattle.sqlite_trees.specs.Tree.{Trees, rowid}
use Rattle.sqlite_trees.specs.Objects.{catalog_tree, number_in}
use Rattle.sqlite_schema.specs.declared.schema.Schema.{Schema}
use Rattle.sqlite_schema.specs.declared.schema.Table.{Table}
use Rattle.sqlite_schema.specs.Names.{same_name}
use Rattle.sqlite_catalog.specs.Listing.{IsTableRow, is_table_row}
use Rattle.sqlite.specs.Effect.{Database}
use Rattle.hosts_sql.specs.Maps.{Rows}
use Rattle.hosts_sql.specs.Tables.{own_name, hosts_name, watches_name, first_hosts_name}
use Rattle.hosts_sql.specs.Schemas.{table_in, tree_in, IsHostSchema}
use Rattle.hosts_sql.specs.Shown.{number_at, upgraded_row, rows_named, shown_rows, hosts_by, shown}
use Rattle.hosts_sql.specs.Wrote.{number, rows_of, hosts_of}
use Rattle.hosts_sql.specs.declared.tables.TablesVersion.{TablesVersion}
use Rattle.hosts_sql.specs.declared.tables.TablesVersion.TheVariants.{First, Second}

-- what the tables of schema 2 show
abbrev pub shown_in : Schema → Trees → Rows
shown_in schema db = shown_rows (db (tree_in schema own_name)) (db (tree_in schema hosts_name)) (db (tree_in schema watches_name))

-- and those of schema 1
abbrev pub shown_in_first : Schema → Trees → Rows
shown_in_first schema db = shown_rows (db (tree_in schema own_name)) (map upgraded_row (db (tree_in schema first_hosts_name))) (db (tree_in schema watches_name))

-- a table is listed under its name, and its tree is one below its rowid
listed_as : (name : List ℕ) (rows : List Row) (tables : List Table) → AllZip IsTableRow rows tables
    → option_map (λ row. number_in (rowid row) - 1) (find (λ row. same_name (bytes (column row 2)) name) rows) ≡ option_map (λ t. t.tree) (find (λ t. same_name t.name name) tables)
listed_as name [] [] h = refl
listed_as name [] (t ∷ tables) h = absurd h
listed_as name (r ∷ rows) [] h = absurd h
listed_as name (r ∷ rows) (t ∷ tables) h =
    let named : same_name (bytes (column r 2)) name ≡ same_name t.name name = ap (λ v. same_name (bytes v) name) h.0.described.name_is in
    let tree : number_in (rowid r) - 1 ≡ t.tree = ap (λ v. number_in v - 1) h.0.described.id ∙ omega arith in
    ap (λ b. option_map (λ row. number_in (rowid row) - 1) (cond b (Some r) (find (λ row. same_name (bytes (column row 2)) name) rows))) named ∙ go (same_name t.name name) tree (listed_as name rows tables h.1)
  where
    go : (b : Bool) → number_in (rowid r) - 1 ≡ t.tree
        → option_map (λ row. number_in (rowid row) - 1) (find (λ row. same_name (bytes (column row 2)) name) rows) ≡ option_map (λ u. u.tree) (find (λ u. same_name u.name name) tables)
        → option_map (λ row. number_in (rowid row) - 1) (cond b (Some r) (find (λ row. same_name (bytes (column row 2)) name) rows)) ≡ option_map (λ u. u.tree) (cond b (Some t) (find (λ u. same_name u.name name) tables))
    go true tree more = ap Some tree
    go false tree more = more

-- the list has the tables of the schema
abbrev pub Lists : Schema → Trees → Type 0
Lists schema db = AllZip IsTableRow (filter is_table_row (db catalog_tree)) schema.tables

module _ (schema : Schema) (db : Trees) (lists : Lists schema db) where
  -- the rows of a table that the schema has
  pub rows_in_tree : (name : List ℕ) (t : Table) → table_in schema name ≡ Some t → rows_named name db ≡ db (tree_in schema name)
  rows_in_tree name t is =
      let listed = listed_as name (filter is_table_row (db catalog_tree)) schema.tables lists in
      let found = listed ∙ ap (option_map (λ (u : Table). u.tree)) is in
      ap (λ o. unwrap_or (option_map db o) []) found ∙ sym (ap (λ o. db (unwrap_or (option_map (λ (u : Table). u.tree) o) 0)) is)

  -- and of one that it lacks
  pub rows_of_none : (name : List ℕ) → table_in schema name ≡ None → rows_named name db ≡ []
  rows_of_none name is =
      let listed = listed_as name (filter is_table_row (db catalog_tree)) schema.tables lists in
      ap (λ o. unwrap_or (option_map db o) []) (listed ∙ ap (option_map (λ (u : Table). u.tree)) is)

hosts_are : (version : TablesVersion) (schema : Schema) (db : Trees) → Lists schema db → IsHostSchema version schema → hosts_by (number version) db ≡ hosts_of version (record { schema = schema; trees = db })
hosts_are First schema db lists h = ap (map upgraded_row) (rows_in_tree schema db lists first_hosts_name _ h.1.0.0)
hosts_are Second schema db lists h = rows_in_tree schema db lists hosts_name _ h.1.0.0

watches_are : (version : TablesVersion) (schema : Schema) (db : Trees) → Lists schema db → IsHostSchema version schema → rows_named watches_name db ≡ db (tree_in schema watches_name)
watches_are First schema db lists h = rows_in_tree schema db lists watches_name _ h.0.0.1.0
watches_are Second schema db lists h = rows_in_tree schema db lists watches_name _ h.0.0.1.0

own_is : (version : TablesVersion) (schema : Schema) (db : Trees) → Lists schema db → IsHostSchema version schema → rows_named own_name db ≡ db (tree_in schema own_name)
own_is First schema db lists h = rows_in_tree schema db lists own_name _ h.0.0.0.0
own_is Second schema db lists h = rows_in_tree schema db lists own_name _ h.0.0.0.0

-- a database with the tables of a version shows their rows
pub shows_version : (version : TablesVersion) (d : Database) → Lists d.schema d.trees → IsHostSchema version d.schema → number_at (rows_of own_name d) 2 ≡ number version
    → shown d.trees ≡ shown_rows (rows_of own_name d) (hosts_of version d) (rows_of watches_name d)
shows_version version d lists h is =
    let own = own_is version d.schema d.trees lists h in
    let hosts = hosts_are version d.schema d.trees lists h in
    let watches = watches_are version d.schema d.trees lists h in
    let told : number_at (rows_named own_name d.trees) 2 ≡ number version = ap (λ rows. number_at rows 2) own ∙ is in
    let by = ap (λ n. hosts_by n d.trees) told ∙ hosts in
    λ i. shown_rows (own i) (by i) (watches i)

-- one with no object shows none
pub shows_none : (d : Database) → Lists d.schema d.trees → ((name : List ℕ) → table_in d.schema name ≡ None) → shown d.trees ≡ shown_rows [] [] []
shows_none d lists none =
    let own = rows_of_none d.schema d.trees lists own_name (none own_name) in
    let hosts = rows_of_none d.schema d.trees lists hosts_name (none hosts_name) in
    let watches = rows_of_none d.schema d.trees lists watches_name (none watches_name) in
    let told : hosts_by (number_at (rows_named own_name d.trees) 2) d.trees ≡ [] = ap (λ rows. hosts_by (number_at rows 2) d.trees) own ∙ hosts in
    λ i. shown_rows (own i) (told i) (watches i)
