-- Which tables a schema has, by their names.
use Rattle.std.specs.Prelude.{◌≡◌, ℕ, Bool, true, not, ◌&&◌, ◌||◌, ◌==◌, nat_lt, length, List, [], find, Option, Some, None, option_map, unwrap_or, refl}
use Rattle.std.specs.List.{list_all, position_from}
use Rattle.std.specs.Coded.{Coded-set, coded_bool, coded_option, coded_ℕ, ×_prop}
use Rattle.sqlite_sql.specs.Term.{Term}
use Rattle.sqlite_schema.specs.declared.schema.Table.{Table}
use Rattle.sqlite_schema.specs.declared.schema.Schema.{Schema}
use Rattle.sqlite_schema.specs.contracts.schema.Table as table
use Rattle.sqlite_schema.specs.Names.{same_name, table_named, index_named}
use Rattle.sqlite_catalog.specs.Change.{is_reserved}
use Rattle.hosts_sql.specs.Tables.{own_table, hosts_table, watches_table, first_hosts_table, addresses_table, own_name, hosts_name, watches_name, first_hosts_name, addresses_name}
use Rattle.hosts_sql.specs.declared.tables.TablesVersion.{TablesVersion}
use Rattle.hosts_sql.specs.declared.tables.TablesVersion.TheVariants.{First, Second}

-- the table of this name, wherever it stands among the tables
abbrev pub table_in : Schema → List ℕ → Option Table
table_in schema name = find (λ t. same_name t.name name) schema.tables

-- the number of its tree
abbrev pub tree_in : Schema → List ℕ → ℕ
tree_in schema name = unwrap_or (option_map (λ t. t.tree) (table_in schema name)) 0

-- its CHECKs
abbrev pub checks_in : Schema → List ℕ → List Term
checks_in schema name = unwrap_or (option_map (λ t. t.checks) (table_in schema name)) []

-- the schema has the table under its name, in a tree of its own
abbrev pub HasTable : Schema → Table → Type 0
HasTable schema t = (table_in schema t.name ≡ Some t) × ((position_from (λ u. u.tree == t.tree) 0 schema.tables ≡ table_named schema t.name) × (nat_lt t.tree 65536 ≡ true))

pub HasTable-prop : (schema : Schema) (t : Table) → IsProp (HasTable schema t)
HasTable-prop schema t = ×_prop (Coded-set (coded_option table.the_row.coded) _ _) (×_prop (Coded-set (coded_option coded_ℕ) _ _) (Coded-set coded_bool _ _))

-- the names of the tables of both schemas
abbrev pub is_of_hosts : List ℕ → Bool
is_of_hosts name = same_name name own_name || (same_name name hosts_name || (same_name name watches_name || (same_name name first_hosts_name || same_name name addresses_name)))

-- one of these tables, or one of SQLite's own, as sqlite_stat1; it refers to no table, and counts no rowids
abbrev pub is_expected : Table → Bool
is_expected t = (is_of_hosts t.name || is_reserved t.name) && ((length t.references == 0) && not t.is_counted)

-- there is no further table, index or view
abbrev pub has_no_other : Schema → Bool
has_no_other schema = list_all is_expected schema.tables && (list_all (λ i. is_reserved i.name) schema.indexes && (length schema.views == 0))

-- the schema has the table of the addresses
abbrev pub HasAddresses : Schema → Type 0
HasAddresses schema = HasTable schema (addresses_table (tree_in schema addresses_name))

-- the same, or it has no table of that name
abbrev pub IsOfAddresses : Schema → Option Table → Type 0
IsOfAddresses schema None = Unit {0}
IsOfAddresses schema (Some t) = HasAddresses schema

abbrev pub TakesAddresses : Schema → Type 0
TakesAddresses schema = IsOfAddresses schema (table_in schema addresses_name)

IsOfAddresses-prop : (schema : Schema) (found : Option Table) → IsProp (IsOfAddresses schema found)
IsOfAddresses-prop schema None = λ x y. refl
IsOfAddresses-prop schema (Some t) = HasTable-prop schema _

-- the tables of a version, in any order and in any trees, whatever the CHECK of the own state is; a file that was upgraded
-- has the table of schema 1, too, and each may have one of addresses
abbrev pub IsHostSchema : TablesVersion → Schema → Type 0
IsHostSchema First schema =
    ((HasTable schema (own_table (tree_in schema own_name) (checks_in schema own_name)) × HasTable schema (watches_table (tree_in schema watches_name))) × ((has_no_other schema ≡ true) × TakesAddresses schema))
    × (HasTable schema (first_hosts_table (tree_in schema first_hosts_name)) × ((table_in schema hosts_name ≡ None) × (index_named schema hosts_name ≡ None)))
IsHostSchema Second schema =
    ((HasTable schema (own_table (tree_in schema own_name) (checks_in schema own_name)) × HasTable schema (watches_table (tree_in schema watches_name))) × ((has_no_other schema ≡ true) × TakesAddresses schema))
    × (HasTable schema (hosts_table (tree_in schema hosts_name)) × (table_in schema first_hosts_name ≡ option_map (λ t. first_hosts_table t.tree) (table_in schema first_hosts_name)))

HasBoth-prop : (schema : Schema) (s t : Table) → IsProp ((HasTable schema s × HasTable schema t) × ((has_no_other schema ≡ true) × TakesAddresses schema))
HasBoth-prop schema s t = ×_prop (×_prop (HasTable-prop schema s) (HasTable-prop schema t)) (×_prop (Coded-set coded_bool _ _) (IsOfAddresses-prop schema (table_in schema addresses_name)))

pub IsHostSchema-prop : (version : TablesVersion) (schema : Schema) → IsProp (IsHostSchema version schema)
IsHostSchema-prop First schema =
    ×_prop (HasBoth-prop schema _ _) (×_prop (HasTable-prop schema _) (×_prop (Coded-set (coded_option table.the_row.coded) _ _) (Coded-set (coded_option coded_ℕ) _ _)))
IsHostSchema-prop Second schema = ×_prop (HasBoth-prop schema _ _) (×_prop (HasTable-prop schema _) (Coded-set (coded_option table.the_row.coded) _ _))
