-- The rows that the trees of a database stand for.
use Rattle.std.specs.Prelude.{ℕ, pos, List, [], ◌∷◌, map, filter, find, Option, option_map, unwrap_or, slice_index_or, ◌-◌, ◌==◌, if◌then◌else◌}
use Rattle.std.specs.FinMap.{from_entries}
use Rattle.sqlite_value.specs.declared.value.Value.TheVariants.{Int}
use Rattle.sqlite_value.specs.Order.{Row, column, bytes}
use Rattle.sqlite_trees.specs.Tree.{Trees, rowid}
use Rattle.sqlite_rules.specs.Edit.{id_in}
use Rattle.sqlite_trees.specs.Objects.{catalog_tree, number_in}
use Rattle.sqlite_schema.specs.Names.{same_name}
use Rattle.sqlite_catalog.specs.Listing.{is_table_row}
use Rattle.hosts_sql.specs.Tables.{own_name, hosts_name, watches_name, first_hosts_name}
use Rattle.hosts_sql.specs.Maps.{Host, WatchKey, Rows}

abbrev pub host_of : Row → List ℕ × Host
host_of row = (bytes (column row 1), record { epoch = number_in (column row 2); seen = id_in (column row 3); quota = number_in (column row 4) })

abbrev pub watch_of : Row → WatchKey × List ℕ
watch_of row = (
  record { mon = bytes (column row 1); my = record { my_name = bytes (column row 2); prog = id_in (column row 3); vers = id_in (column row 4); proc = id_in (column row 5) } },
  bytes (column row 6),
)

-- a host's row of schema 1 as one of schema 2
abbrev pub upgraded_row : Row → Row
upgraded_row row = column row 0 ∷ column row 1 ∷ column row 2 ∷ column row 3 ∷ Int (pos 65536) ∷ []

-- a number in the first row
abbrev pub number_at : List Row → ℕ → ℕ
number_at rows place = number_in (column (slice_index_or rows 0 []) place)

-- the number of the tree of the table that is listed under this name
abbrev pub listed_tree : List ℕ → List Row → Option ℕ
listed_tree name objects = option_map (λ row. number_in (rowid row) - 1) (find (λ row. same_name (bytes (column row 2)) name) (filter is_table_row objects))

-- the rows of that table, or none where none is listed
abbrev pub rows_named : List ℕ → Trees → List Row
rows_named name db = unwrap_or (option_map db (listed_tree name (db catalog_tree))) []

-- these rows as a store has them
abbrev pub shown_rows : List Row → List Row → List Row → Rows
shown_rows own hosts watches = record { own = number_at own 3; hosts = from_entries (map host_of hosts); watches = from_entries (map watch_of watches) }

-- the hosts are those of the version that the own state tells
abbrev pub hosts_by : ℕ → Trees → List Row
hosts_by version db = if version == 1 then map upgraded_row (rows_named first_hosts_name db) else rows_named hosts_name db

-- what the tables show, wherever they are listed: a database that lists none holds no rows
abbrev pub shown : Trees → Rows
shown db = shown_rows (rows_named own_name db) (hosts_by (number_at (rows_named own_name db) 2) db) (rows_named watches_name db)
