-- What making the table of the addresses does.
use Rattle.std.proofs.Common.{◌≡◌, ◌<◌, ℕ, ◌+◌, true, false, List, [], ◌∷◌, map, Some, None, Option, is_some, option_map, refl, sym, ap, subst, ◌∙◌, arith}
use Rattle.std.specs.List.{list_all}
use Rattle.sqlite_schema.specs.declared.schema.Schema.{Schema}
use Rattle.sqlite_schema.specs.declared.schema.Table.{Table}
use Rattle.sqlite_schema.specs.Names.{same_name}
use Rattle.sqlite_trees.proofs.ListLemmas.{all-slice_get}
use Rattle.sqlite_catalog.specs.Change.{created, next_tree, automatics, is_reserved}
use Rattle.sqlite_catalog.specs.Listing.{IsSound}
use Rattle.sqlite_tied.specs.Compute.{everything}
use Rattle.sqlite.specs.Effect.{Database, IsDatabase}
use Rattle.hosts_sql.specs.Making.{Defines, Created, MakesTable}
use Rattle.hosts_sql.specs.Own.{is_host, is_watched, AreOwn}
use Rattle.hosts_sql.specs.Placing.{Behind, has_addresses}
use Rattle.hosts_sql.specs.Schemas.{HasTable, IsOfAddresses, IsHostSchema, TakesAddresses, table_in, tree_in, checks_in, is_expected, has_no_other}
use Rattle.hosts_sql.specs.Shown.{shown, shown_rows, upgraded_row}
use Rattle.hosts_sql.specs.Tables.{own_name, hosts_name, watches_name, first_hosts_name, addresses_name, own_table, hosts_table, watches_table, first_hosts_table, addresses_table, addresses_text}
use Rattle.hosts_sql.specs.Wrote.{number, rows_of, hosts_of, HasOwnRow, IsWhole}
use Rattle.hosts_sql.specs.declared.making.MakeAddresses.{MakeAddresses}
use Rattle.hosts_sql.specs.declared.tables.TablesVersion.{TablesVersion}
use Rattle.hosts_sql.specs.declared.tables.TablesVersion.TheVariants.{First, Second}
use Rattle.hosts_sql.proofs.AddressTexts.{addresses_is, addresses_command, addresses_statement}
use Rattle.hosts_sql.proofs.More.{new_table, kept, kept_table, kept_none, kept_tree, kept_checks, found, tree_is, new_there, no_other, uncounted, low_tree_of, none_at, no_index, no_views}
use Rattle.hosts_sql.proofs.Places.{Has, own_at, hosts_at, watches_at, first_at, tables_of, has_hosts, has_first}
use Rattle.hosts_sql.proofs.Reading.{shows_hosts}

abbrev fresh : Table
fresh = addresses_table 0

abbrev located : Schema → Schema
located schema = created schema fresh

-- ---- what the table's name is not

addresses_expected : is_expected fresh ≡ true
unfolding everything
addresses_expected = refl

index_expected : (schema : Schema) → list_all (λ i. is_reserved i.name) (automatics (new_table schema fresh) 0 (next_tree schema + 1) ((1 ∷ []) ∷ [])) ≡ true
unfolding everything
index_expected schema = refl

no_hosts : same_name addresses_name hosts_name ≡ false
unfolding everything
no_hosts = refl

no_first : same_name addresses_name first_hosts_name ≡ false
unfolding everything
no_first = refl

none_found : (o : Option Table) → is_some o ≡ false → o ≡ None
none_found None h = refl
none_found (Some t) h = absurd cc

-- ---- the schema with the table

module _ (schema : Schema) (untaken : table_in schema addresses_name ≡ None) (low : next_tree schema < 65536) where
  takes : TakesAddresses (located schema)
  takes =
      let there = subst (λ n. HasTable (located schema) (addresses_table n)) (sym (tree_is schema fresh untaken)) (new_there schema fresh untaken low) in
      subst (IsOfAddresses (located schema)) (sym (found schema fresh untaken)) there

  own_there : HasTable schema (own_at schema) → HasTable (located schema) (own_table (tree_in (located schema) own_name) (checks_in (located schema) own_name))
  own_there h =
      subst (λ c. HasTable (located schema) (own_table (tree_in (located schema) own_name) c)) (sym (kept_checks schema fresh own_name _ h.0))
      (subst (λ n. HasTable (located schema) (own_table n (checks_in schema own_name))) (sym (kept_tree schema fresh own_name _ h.0)) (kept schema fresh (own_at schema) h))

  watches_there : HasTable schema (watches_at schema) → HasTable (located schema) (watches_table (tree_in (located schema) watches_name))
  watches_there h = subst (λ n. HasTable (located schema) (watches_table n)) (sym (kept_tree schema fresh watches_name _ h.0)) (kept schema fresh (watches_at schema) h)

  hosts_there : HasTable schema (hosts_at schema) → HasTable (located schema) (hosts_table (tree_in (located schema) hosts_name))
  hosts_there h = subst (λ n. HasTable (located schema) (hosts_table n)) (sym (kept_tree schema fresh hosts_name _ h.0)) (kept schema fresh (hosts_at schema) h)

  first_there : HasTable schema (first_at schema) → HasTable (located schema) (first_hosts_table (tree_in (located schema) first_hosts_name))
  first_there h = subst (λ n. HasTable (located schema) (first_hosts_table n)) (sym (kept_tree schema fresh first_hosts_name _ h.0)) (kept schema fresh (first_at schema) h)

  -- the table of schema 1, if there is one, stays
  first_kept : (o : Option Table) → table_in schema first_hosts_name ≡ o → o ≡ option_map (λ t. first_hosts_table t.tree) o → table_in (located schema) first_hosts_name ≡ option_map (λ t. first_hosts_table t.tree) (table_in (located schema) first_hosts_name)
  first_kept None is h = let gone = kept_none schema fresh first_hosts_name is no_first in gone ∙ sym (ap (option_map (λ (t : Table). first_hosts_table t.tree)) gone)
  first_kept (Some t) is h = let there = kept_table schema fresh first_hosts_name t is in there ∙ h ∙ sym (ap (option_map (λ (u : Table). first_hosts_table u.tree)) there)

  located_is : (version : TablesVersion) → IsHostSchema version schema → IsHostSchema version (located schema)
  located_is First h =
      let others = no_other schema fresh addresses_expected (index_expected schema) h.0.1.0 in
      let unindexed = no_index (located schema) hosts_name (λ e. omega (arith, e)) others in
      (((own_there h.0.0.0, watches_there h.0.0.1), (others, takes)), (first_there h.1.0, (kept_none schema fresh hosts_name h.1.1.0 no_hosts, unindexed)))
  located_is Second h =
      let others = no_other schema fresh addresses_expected (index_expected schema) h.0.1.0 in
      (((own_there h.0.0.0, watches_there h.0.0.1), (others, takes)), (hosts_there h.1.0, first_kept (table_in schema first_hosts_name) refl h.1.1))

others_of : (version : TablesVersion) (schema : Schema) → IsHostSchema version schema → has_no_other schema ≡ true
others_of version schema h = (tables_of version schema h).no_other

-- ---- the statement

defines : (version : TablesVersion) (schema : Schema) → IsHostSchema version schema → table_in schema addresses_name ≡ None → Defines schema addresses_text fresh
defines version schema h none =
    let free = others_of version schema h in
    let views = no_views schema free in
    let untaken = none_at (λ t. same_name t.name addresses_name) schema.tables 0 none in
    let unindexed = no_index schema addresses_name (λ e. omega (arith, e)) free in
    let means = addresses_command schema views untaken unindexed in
    record { command = means.command; statement = addresses_statement schema views untaken unindexed; plain = means.plain; defined = addresses_is; uncounted = uncounted schema fresh refl free }

-- the file is one of the same version, and shows the same rows
pub record Located (version : TablesVersion) (old new : Database) : Type 0 where
  pub whole : IsWhole version new
  pub rows : shown new.trees ≡ shown old.trees
  pub sound : IsDatabase new

module _ (a b : Database) (made : Created a.schema fresh a b) where
  rows_same : (name : List ℕ) (t : Table) → table_in a.schema name ≡ Some t → t.tree ≡ tree_in a.schema name → Has a.schema t → rows_of name b ≡ rows_of name a
  rows_same name t is at there =
      let stays : b.trees t.tree ≡ a.trees t.tree = all-slice_get (λ (u : Table). b.trees u.tree ≡ a.trees u.tree) a.schema.tables there.at t there.got made.others in
      ap (λ s. b.trees (tree_in s name)) made.makes ∙ ap b.trees (kept_tree a.schema fresh name t is) ∙ subst (λ n. b.trees n ≡ a.trees n) at stays

  hosts_same : (version : TablesVersion) → IsHostSchema version a.schema → hosts_of version b ≡ hosts_of version a
  hosts_same First h = ap (map upgraded_row) (rows_same first_hosts_name (first_at a.schema) h.1.0.0 refl (has_first a.schema h))
  hosts_same Second h = rows_same hosts_name (hosts_at a.schema) h.1.0.0 refl (has_hosts a.schema h)

  own_same : (version : TablesVersion) → IsHostSchema version a.schema → rows_of own_name b ≡ rows_of own_name a
  own_same First h = rows_same own_name (own_at a.schema) h.0.0.0.0 refl (tables_of First a.schema h).own
  own_same Second h = rows_same own_name (own_at a.schema) h.0.0.0.0 refl (tables_of Second a.schema h).own

  watches_same : (version : TablesVersion) → IsHostSchema version a.schema → rows_of watches_name b ≡ rows_of watches_name a
  watches_same First h = rows_same watches_name (watches_at a.schema) h.0.0.1.0 refl (tables_of First a.schema h).watches
  watches_same Second h = rows_same watches_name (watches_at a.schema) h.0.0.1.0 refl (tables_of Second a.schema h).watches

pub made_addresses : (version : TablesVersion) (a b : Database) → IsWhole version a → IsDatabase a → has_addresses a.schema ≡ false → MakesTable addresses_text a b → Located version a b
made_addresses version a b whole sound lacks makes =
    let h = whole.0.0 in
    let none = none_found (table_in a.schema addresses_name) lacks in
    let made = makes a.schema fresh refl (defines version a.schema h none) in
    let low = low_tree_of a.schema fresh b.trees (subst (λ s. IsSound s b.trees) made.makes made.sound) in
    let is = subst (IsHostSchema version) (sym made.makes) (located_is a.schema none low version h) in
    let own = own_same a b made version h in
    let hosts = hosts_same a b made version h in
    let watches = watches_same a b made version h in
    let own_row = subst (HasOwnRow (number version)) (sym own) whole.0.1 in
    let late = shows_hosts version b is made.sound own_row in
    let early = shows_hosts version a h sound whole.0.1 in
    record {
      whole = ((is, own_row), (subst (AreOwn is_host) (sym hosts) whole.1.0, subst (AreOwn is_watched) (sym watches) whole.1.1));
      rows = late ∙ (λ i. shown_rows (own i) (hosts i) (watches i)) ∙ sym early;
      sound = made.sound;
    }

abbrev pub makes : MakeAddresses → Database → Database → Type 0
makes _ = MakesTable addresses_text

-- a work behind it finds the same rows
pub behind_table : (version : TablesVersion) (Work : Database → Database → Type 0) (first : Option MakeAddresses) (from to : Database) → IsWhole version from → IsDatabase from → (is_some first ≡ true → has_addresses from.schema ≡ false)
    → Behind makes first Work from to → (mid : Database) × Located version from mid × Work mid to
behind_table version Work None from to whole sound lacks ran = (from, record { whole = whole; rows = refl; sound = sound }, ran)
behind_table version Work (Some first) from to whole sound lacks ran = (ran.0, made_addresses version from ran.0 whole sound (lacks refl) ran.1, ran.2)
