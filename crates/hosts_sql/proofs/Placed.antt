-- What the statements on addresses leave of the other tables.
use Rattle.std.proofs.Common.{◌≡◌, ◌≢◌, ℕ, suc, List, [], ◌∷◌, map, true, Some, None, Option, Ok, is_some, length, refl, sym, ap, subst, ◌∙◌, arith}
use Rattle.std.specs.FinMap.{from_entries}
use Rattle.sqlite_value.specs.declared.value.Value.TheVariants.{Null}
use Rattle.sqlite_value.specs.Order.{Row}
use Rattle.sqlite_schema.specs.declared.schema.Keys.{Keys}
use Rattle.sqlite_schema.specs.declared.schema.Schema.{Schema}
use Rattle.sqlite_schema.specs.declared.schema.Table.{Table}
use Rattle.sqlite_schema.specs.declared.command.Command.TheVariants.{Insert, Delete}
use Rattle.sqlite_schema.specs.declared.command.Source.{Source}
use Rattle.std.specs.List.{Contains}
use Rattle.std.specs.declared.cmp.Ordering.{Ordering}
use Rattle.std.specs.declared.cmp.Ordering.TheVariants.{Less, Equal, Greater}
use Rattle.std.specs.Ordering.{match_ordering}
use Rattle.sqlite_value.specs.Order.{value_cmp}
use Rattle.sqlite_trees.specs.Tree.{Trees, put_row, rowid}
use Rattle.sqlite_trees.specs.Objects.{catalog_tree}
use Rattle.sqlite_rules.specs.Edit.{Edit, edit_of, edited, next_rowid, Applies}
use Rattle.sqlite_rules.specs.Calls.{ids_of}
use Rattle.sqlite_rules.specs.declared.error.Rowids.TheVariants.{Chosen, Given}
use Rattle.sqlite_catalog.specs.Listing.{IsSound}
use Rattle.sqlite.specs.Does.{Tally}
use Rattle.sqlite.specs.Rows.{Written}
use Rattle.sqlite.specs.Effect.{Database, IsDatabase}
use Rattle.sqlite.specs.Given.{IsPlain}
use Rattle.sqlite.specs.Listing.{understood}
use Rattle.definitions.specs.Bytes.{Bytes}
use Rattle.sql_transactions.specs.Work.{Ran}
use Rattle.hosts_sql.specs.Maps.{Rows}
use Rattle.hosts_sql.specs.Own.{is_host, is_watched, AreOwn}
use Rattle.hosts_sql.specs.Placing.{Behind, HasAddress, PutsAddress, address_given, address_row, named_given, has_addresses}
use Rattle.hosts_sql.specs.Schemas.{HasAddresses, IsOfAddresses, TakesAddresses, IsHostSchema, table_in, tree_in}
use Rattle.hosts_sql.specs.Shown.{host_of, watch_of, number_at}
use Rattle.hosts_sql.specs.Tables.{own_name, hosts_name, watches_name, addresses_name, addresses_table, insert_address_text, delete_address_text, read_addresses_text}
use Rattle.hosts_sql.specs.Wrote.{HasOwnRow, IsWhole}
use Rattle.hosts_sql.specs.declared.placing.PutAddress.{PutAddress}
use Rattle.hosts_sql.specs.declared.tables.TablesVersion.{TablesVersion}
use Rattle.hosts_sql.specs.declared.tables.TablesVersion.TheVariants.{First, Second}
use Rattle.hosts_sql.proofs.AddressTexts.{address_terms, insert_address_is, delete_address_is, read_addresses_is}
use Rattle.hosts_sql.proofs.Edits.{rowids}
use Rattle.hosts_sql.proofs.Listings.{shown_in}
use Rattle.hosts_sql.proofs.Monitor.{cast_null, inserted, went, same_value}
use Rattle.hosts_sql.proofs.Places.{Has, has, own_at, hosts_at, watches_at, tables_of, has_hosts, trees_apart, on_table, one_change, stays, list_stays}
use Rattle.hosts_sql.proofs.Rows.{Makes, makes_then, did_at, show_tables, whole_after}
use Rattle.hosts_sql.proofs.Texts.{query, alone, host_tests}

-- ---- where the table is

abbrev pub addresses_at : Schema → Table
addresses_at schema = addresses_table (tree_in schema addresses_name)

of_addresses : (schema : Schema) (found : Option Table) → IsOfAddresses schema found → is_some found ≡ true → HasAddresses schema
of_addresses schema None h is = absurd cc
of_addresses schema (Some t) h is = h

-- the text that reads the addresses shows rows
pub addresses_plain : (schema : Schema) → TakesAddresses schema → has_addresses schema ≡ true → IsPlain (understood schema read_addresses_text)
addresses_plain schema h is = (read_addresses_is schema (tree_in schema addresses_name) (has schema (addresses_at schema) (of_addresses schema (table_in schema addresses_name) h is))).plain

-- a schema of hosts that has a table of that name has the table of the addresses
pub addresses_in : (version : TablesVersion) (schema : Schema) → IsHostSchema version schema → has_addresses schema ≡ true → Has schema (addresses_at schema)
addresses_in First schema h is = has schema (addresses_at schema) (of_addresses schema (table_in schema addresses_name) h.0.1.1 is)
addresses_in Second schema h is = has schema (addresses_at schema) (of_addresses schema (table_in schema addresses_name) h.0.1.1 is)

longer : (a b : List ℕ) → a ≡ b → length a ≡ length b
longer a b e = ap length e

addresses_not_own : addresses_name ≢ own_name
addresses_not_own e = let n = longer addresses_name own_name e in omega (arith, n)

addresses_not_hosts : addresses_name ≢ hosts_name
addresses_not_hosts e = let n = longer addresses_name hosts_name e in omega (arith, n)

addresses_not_watches : addresses_name ≢ watches_name
addresses_not_watches e = let n = longer addresses_name watches_name e in omega (arith, n)

-- ---- one statement

-- the tables beside this one are as they were
record Elsewhere (schema : Schema) (t : Table) (old new : Trees) : Type 0 where
  others : (u : Table) → Has schema u → t.name ≢ u.name → new u.tree ≡ old u.tree
  listed : new catalog_tree ≡ old catalog_tree

elsewhere : (schema : Schema) (t : Table) (keys : Keys) (db next : Trees) (edit : Edit) → Has schema t → edit.table ≡ t → IsSound schema next → Applies schema keys db edit next → Elsewhere schema t db next
elsewhere schema t keys db next edit there is sound a =
    let at = subst (Has schema) (sym is) there in
    record {
      others = λ u h apart. stays schema keys db next edit u a h (λ e. trees_apart schema t u there h apart (sym (e ∙ ap (λ (x : Table). x.tree) is)));
      listed = list_stays schema keys db next edit a at sound;
    }

-- what is left of a schema of hosts where the addresses alone were written
leaves : (from to : Database) → IsWhole Second from → to.schema ≡ from.schema → IsDatabase to → Elsewhere from.schema (addresses_at from.schema) from.trees to.trees → Makes (λ (r : Rows). r) from to
leaves from to whole same sound e =
    let schema = from.schema in
    let tables = tables_of Second schema whole.0.0 in
    let own = e.others (own_at schema) tables.own addresses_not_own in
    let hosts = e.others (hosts_at schema) (has_hosts schema whole.0.0) addresses_not_hosts in
    let watches = e.others (watches_at schema) tables.watches addresses_not_watches in
    let own_row = subst (HasOwnRow 2) (sym own) whole.0.1 in
    let after = whole_after from to whole same own_row (subst (AreOwn is_host) (sym hosts) whole.1.0) (subst (AreOwn is_watched) (sym watches) whole.1.1) in
    let shows = show_tables from to whole.0.0 same sound e.listed whole.0.1 own_row in
    let state = ap (λ rows. number_at rows 3) own in
    let named = ap (λ rows. from_entries (map host_of rows)) hosts in
    let watched = ap (λ rows. from_entries (map watch_of rows)) watches in
    let alike : shown_in schema to.trees ≡ shown_in schema from.trees = λ i. record { own = state i; hosts = named i; watches = watched i } in
    record { whole = after; rows = shows.late ∙ alike ∙ sym shows.early }

put_there : (new : Row) (rows : List Row) → Contains (put_row new rows) new
put_there new [] = (0, omega arith, refl)
put_there new (r ∷ rs) = go (value_cmp (rowid r) (rowid new)) (put_there new rs)
  where
    go : (o : Ordering) → Contains (put_row new rs) new → Contains (match_ordering o (r ∷ put_row new rs) (new ∷ rs) (new ∷ r ∷ rs)) new
    go Less more = let low = more.1 in (suc more.0, omega (arith, low), more.2)
    go Equal more = (0, omega arith, refl)
    go Greater more = (0, omega arith, refl)

abbrev address_edit : ℕ → Trees → Bytes → Bytes → Edit
address_edit tree db name text = edit_of db (addresses_table tree) [] Chosen 0 ((Null ∷ address_given name text) ∷ [])

address_news : (tree : ℕ) (db : Trees) (name text : Bytes) → (address_edit tree db name text).news ≡ address_row (next_rowid (db tree)) name text ∷ []
address_news tree db name text = rw (cast_null)

-- the row that was put is there
row_put : (keys : Keys) (schema : Schema) (tree : ℕ) (db next : Trees) (name text : Bytes) → Applies schema keys db (address_edit tree db name text) next → Contains (next tree) (address_row (next_rowid (db tree)) name text)
row_put keys schema tree db next name text a =
    let row = address_row (next_rowid (db tree)) name text in
    let rows : next tree ≡ put_row row (db tree) = a.rows ∙ ap (λ all. edited db (record { table = addresses_table tree; gone = []; news = all })) (address_news tree db name text) in
    subst (λ (all : List Row). Contains all row) (sym rows) (put_there row (db tree))

module _ (from to : Database) (whole : IsWhole Second from) (there : Has from.schema (addresses_at from.schema)) where
  pub inserted_address : (name text : Bytes) → Ran insert_address_text (address_given name text) from to → (to.schema ≡ from.schema) × Makes (λ (r : Rows). r) from to × HasAddress name text to
  inserted_address name text ran =
      let schema = from.schema in
      let t = addresses_at schema in
      let params = address_given name text in
      let means = insert_address_is schema (tree_in schema addresses_name) there in
      let k = Insert there.at (Rattle.sqlite_schema.specs.declared.command.Source.TheVariants.Values address_terms 3) in
      let it = did_at schema insert_address_text params k from to refl tt means.command means.plain ran in
      let done = inserted it.1 it.2 params schema t there.at (Rattle.sqlite_schema.specs.declared.command.Source.TheVariants.Values address_terms 3) from.trees it.3 to (on_table it.1 it.2 params from there.at t k (Ok (it.3, to)) there.got it.4) in
      let edit = edit_of from.trees t [] Chosen 0 done.1 in
      let applied = one_change schema _ from.trees to.trees edit (tables_of Second schema whole.0.0).no_other done.3 in
      let sound = subst (λ s. IsSound s to.trees) done.0 it.5 in
      let tree = tree_in schema addresses_name in
      let exact = subst (λ all. Applies schema it.2.keys from.trees (edit_of from.trees t [] Chosen 0 all) to.trees) done.2.1 applied in
      let put = row_put it.2.keys schema tree from.trees to.trees name text exact in
      let row = address_row (next_rowid (from.trees tree)) name text in
      let has_row = subst (λ (s : Schema). Contains (to.trees (tree_in s addresses_name)) row) (sym done.0) put in
      (done.0, leaves from to whole done.0 it.5 (elsewhere schema t it.2.keys from.trees to.trees edit there refl sound applied), (next_rowid (from.trees tree), has_row))

  pub deleted_address : (name : Bytes) → Ran delete_address_text (named_given name) from to → (to.schema ≡ from.schema) × Makes (λ (r : Rows). r) from to
  deleted_address name ran =
      let schema = from.schema in
      let t = addresses_at schema in
      let params = named_given name in
      let means = delete_address_is schema (tree_in schema addresses_name) there in
      let k = Delete there.at (alone (query t.tree host_tests rowids [])) in
      let it = did_at schema delete_address_text params k from to refl tt means.command means.plain ran in
      let done = went (on_table it.1 it.2 params from there.at t k (Ok (it.3, to)) there.got it.4) in
      let now = ap (λ (p : Tally × Database). p.1) (same_value (went (went done.2).2).2) in
      let queried = went done.1 in
      let wrote = went queried.2 in
      let trees : done.0.trees ≡ wrote.0 = ap (λ (w : Written). w.trees) (same_value wrote.2) in
      let same : to.trees ≡ wrote.0 = ap (λ (d : Database). d.trees) now ∙ trees in
      let is_same = ap (λ (d : Database). d.schema) now in
      let edit = edit_of from.trees t (ids_of queried.0) Given 0 [] in
      let sound = subst (λ s. IsSound s to.trees) is_same it.5 in
      let applied = subst (Applies schema it.2.keys from.trees edit) (sym same) (one_change schema _ from.trees wrote.0 edit (tables_of Second schema whole.0.0).no_other wrote.1) in
      (is_same, leaves from to whole is_same it.5 (elsewhere schema t it.2.keys from.trees to.trees edit there refl sound applied))

-- ---- both

pub put_address : (name text : Bytes) (from to : Database) → IsWhole Second from → has_addresses from.schema ≡ true → PutsAddress name text from to → Makes (λ (r : Rows). r) from to × HasAddress name text to
put_address name text from to whole is ran =
    let there = addresses_in Second from.schema whole.0.0 is in
    let first = deleted_address from ran.0 whole there name ran.1 in
    let late = subst (λ (s : Schema). Has s (addresses_at s)) (sym first.0) there in
    let second = inserted_address ran.0 to first.1.whole late name text ran.2 in
    (makes_then (λ r. r) (λ r. r) from ran.0 to first.1 second.1, second.2)

abbrev pub puts : PutAddress → Database → Database → Type 0
puts put = PutsAddress put.name.now put.text.now

-- a work behind it finds the same rows
pub behind_address : (Work : Database → Database → Type 0) (first : Option PutAddress) (from to : Database) → IsWhole Second from → (is_some first ≡ true → has_addresses from.schema ≡ true) → Behind puts first Work from to
    → (mid : Database) × Makes (λ (r : Rows). r) from mid × Work mid to
behind_address Work None from to whole is ran = (from, record { whole = whole; rows = refl }, ran)
behind_address Work (Some put) from to whole is ran = (ran.0, (put_address put.name.now put.text.now from ran.0 whole (is refl) ran.1).0, ran.2)
