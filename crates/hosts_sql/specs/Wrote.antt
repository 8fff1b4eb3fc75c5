-- What a statement leaves of a connection.
use Rattle.std.specs.Prelude.{◌≡◌, ℕ, pos, List, [], ◌∷◌, map, IsTrue}
use Rattle.sqlite_value.specs.declared.value.Value.TheVariants.{Null, Int}
use Rattle.sqlite_value.specs.Order.{Row, column}
use Rattle.sqlite_value.specs.contracts.row.Row as row
use Rattle.std.specs.Coded.{Coded-set, coded_list, →_prop, ×_prop}
use Rattle.sqlite_schema.specs.contracts.schema.Schema.{the_row}
use Rattle.sqlite_trees.specs.Tree.{Trees}
use Rattle.sqlite.specs.State.{State, HasCleanDisk}
use Rattle.definitions.specs.Hosts.{Hosts}
use Rattle.hosts_sql.specs.Maps.{Rows, hosts_of_rows}
use Rattle.sqlite.specs.Effect.{Database}
use Rattle.hosts_sql.specs.Tables.{own_name, hosts_name, watches_name, first_hosts_name, no_schema, read_hosts_text, read_first_hosts_text}
use Rattle.hosts_sql.specs.Schemas.{tree_in, IsHostSchema, IsHostSchema-prop}
use Rattle.hosts_sql.specs.declared.tables.TablesVersion.{TablesVersion}
use Rattle.hosts_sql.specs.declared.tables.TablesVersion.TheVariants.{First, Second}
use Rattle.hosts_sql.specs.Own.{is_host, is_watched, AreOwn, AreOwn-prop}
use Rattle.hosts_sql.specs.Shown.{number_at, upgraded_row, shown}

abbrev pub number : TablesVersion → ℕ
number First = 1
number Second = 2

-- the rows of the table of this name
abbrev pub rows_of : List ℕ → Database → List Row
rows_of name d = d.trees (tree_in d.schema name)

-- the rows of the hosts, as those of schema 2
abbrev pub hosts_of : TablesVersion → Database → List Row
hosts_of First d = map upgraded_row (rows_of first_hosts_name d)
hosts_of Second d = rows_of hosts_name d

-- the text that reads them
abbrev pub hosts_text : TablesVersion → List ℕ
hosts_text First = read_first_hosts_text
hosts_text Second = read_hosts_text

-- the rows that the last commit left
abbrev pub rows_in : State → Rows
rows_in s = shown s.committed.trees

-- and as a store shows them
abbrev pub hosts_in : State → Hosts
hosts_in s = hosts_of_rows (rows_in s)

-- the row of the own state, whose id is its rowid
abbrev pub own_row_at : ℕ → ℕ → Row
own_row_at version own = Int (pos 1) ∷ Null ∷ Int (pos version) ∷ Int (pos own) ∷ []

-- its id, version and state
abbrev pub own_shown : Row → Row
own_shown row = column row 0 ∷ column row 2 ∷ column row 3 ∷ []

-- the table of the own state has its one row, of this version
abbrev pub HasOwnRow : ℕ → List Row → Type 0
HasOwnRow version rows = map own_shown rows ≡ (Int (pos 1) ∷ Int (pos version) ∷ Int (pos (number_at rows 3)) ∷ []) ∷ []

-- the tables are there, the own state is, and the rows of the others are told apart by their rowids
abbrev pub IsWhole : TablesVersion → Database → Type 0
IsWhole version d =
    (IsHostSchema version d.schema × HasOwnRow (number version) (rows_of own_name d))
    × (AreOwn is_host (hosts_of version d) × AreOwn is_watched (rows_of watches_name d))

pub IsWhole-prop : (version : TablesVersion) (d : Database) → IsProp (IsWhole version d)
IsWhole-prop version d =
    ×_prop (×_prop (IsHostSchema-prop version d.schema) (Coded-set (coded_list row.the_row.coded) _ _)) (×_prop (AreOwn-prop is_host (hosts_of version d)) (AreOwn-prop is_watched (rows_of watches_name d)))

-- the last commit holds the tables of this version
abbrev pub HasTables : TablesVersion → State → Type 0
HasTables version s = HasCleanDisk s → IsTrue s.is_open → IsWhole version s.committed

pub HasTables-prop : (version : TablesVersion) (s : State) → IsProp (HasTables version s)
HasTables-prop version s = →_prop (→_prop (IsWhole-prop version s.committed))

-- a database with no object
abbrev pub IsFresh : State → Type 0
IsFresh s = HasCleanDisk s → IsTrue s.is_open → s.committed.schema ≡ no_schema

pub IsFresh-prop : (s : State) → IsProp (IsFresh s)
IsFresh-prop s = →_prop (→_prop (Coded-set the_row.coded _ _))

-- the change is committed
pub record WroteHosts (change : Hosts → Hosts) (old new : State) : Type 0 where
  pub was_open : IsTrue old.is_open
  pub is_open : IsTrue new.is_open
  pub whole : IsWhole Second new.committed
  pub rows : hosts_in new ≡ change (hosts_in old)

-- what the call writes, if it gets that far
abbrev pub MayWriteHosts : (Hosts → Hosts) → State → Trees → Type 0
MayWriteHosts change old db = IsTrue old.is_open × (hosts_of_rows (shown db) ≡ change (hosts_in old))

-- an open after a crash at this moment may find these rows, if no wrong answer of the disk was taken as true
abbrev pub MayLeave : State → Hosts → Type 0
MayLeave s left = HasCleanDisk s × (db : Trees) × s.may_leave db × (hosts_of_rows (shown db) ≡ left)

-- the last commit shows these rows
abbrev pub IsAsKept : State → Hosts → Type 0
IsAsKept s hosts = HasCleanDisk s → IsTrue s.is_open → hosts_of_rows (rows_in s) ≡ hosts
