-- The tables and their texts.
use Rattle.std.specs.Prelude.{ℕ, true, false, [], ◌∷◌, Some, None, codes, List, pos}
use Rattle.sqlite_value.specs.declared.value.Value.TheVariants.{Null, Int}
use Rattle.sqlite_value.specs.declared.keys.Collation.TheVariants.{Binary}
use Rattle.sqlite_value.specs.declared.keys.Order.{Order}
use Rattle.sqlite_schema.specs.declared.schema.Column.{Column}
use Rattle.sqlite_schema.specs.declared.schema.Kind.{Kind}
use Rattle.sqlite_schema.specs.declared.schema.Kind.TheVariants.{Integer, Blob, Text}
use Rattle.sqlite_schema.specs.declared.schema.Table.{Table}
use Rattle.sqlite_schema.specs.declared.schema.Schema.{Schema}
use Rattle.sqlite_sql.specs.Term.{Term, lit, col, op2}
use Rattle.sqlite_sql.specs.declared.ops.BinaryOp.TheVariants.{Compare}
use Rattle.sqlite_sql.specs.declared.ops.CompareOp.TheVariants.{Eq}

abbrev pub own_name : List ℕ
own_name = codes "own"

abbrev pub hosts_name : List ℕ
hosts_name = codes "hosts2"

abbrev pub watches_name : List ℕ
watches_name = codes "watches"

-- that of the hosts in schema 1
abbrev pub first_hosts_name : List ℕ
first_hosts_name = codes "hosts"

abbrev pub own_text : List ℕ
own_text = codes "CREATE TABLE own (id INTEGER PRIMARY KEY CHECK (id = 1), version INTEGER NOT NULL, state INTEGER NOT NULL) STRICT"

abbrev pub hosts_text : List ℕ
hosts_text = codes "CREATE TABLE hosts2 (name BLOB NOT NULL PRIMARY KEY, epoch INTEGER NOT NULL, seen INTEGER NOT NULL, quota INTEGER NOT NULL) STRICT"

abbrev pub watches_text : List ℕ
watches_text =
    codes "CREATE TABLE watches (mon BLOB NOT NULL, my BLOB NOT NULL, prog INTEGER NOT NULL, vers INTEGER NOT NULL, proc INTEGER NOT NULL, priv BLOB NOT NULL, PRIMARY KEY (mon, my, prog, vers, proc)) STRICT"

-- a column that is NOT NULL
abbrev pub required_column : List ℕ → Kind → Column
required_column name kind = record { name = name; kind = kind; is_strict = true; not_null = true; default = Null; collation = Binary }

-- a table with a key that is no rowid, in the tree with this number
abbrev pub keyed_table : List ℕ → ℕ → List Column → List ℕ → Order → Table
keyed_table name tree columns key order = record {
  name = name;
  tree = tree;
  columns = columns;
  key = None;
  primary = key;
  uniques = key ∷ [];
  orders = order ∷ [];
  checks = [];
  references = [];
  computed = [];
  stamps = record { places = []; terms = []; formats = [] };
  is_counted = false;
}

abbrev pub hosts_columns : List Column
hosts_columns = required_column (codes "name") Blob ∷ required_column (codes "epoch") Integer ∷ required_column (codes "seen") Integer ∷ required_column (codes "quota") Integer ∷ []

abbrev pub watches_columns : List Column
watches_columns =
    required_column (codes "mon") Blob ∷ required_column (codes "my") Blob ∷ required_column (codes "prog") Integer ∷ required_column (codes "vers") Integer
    ∷ required_column (codes "proc") Integer ∷ required_column (codes "priv") Blob ∷ []

abbrev pub one_key : Order
one_key = record { digits = 0 }

abbrev pub five_keys : Order
five_keys = record { digits = 0 }

abbrev pub hosts_table : ℕ → Table
hosts_table tree = keyed_table hosts_name tree hosts_columns (1 ∷ []) one_key

abbrev pub watches_table : ℕ → Table
watches_table tree = keyed_table watches_name tree watches_columns (1 ∷ 2 ∷ 3 ∷ 4 ∷ 5 ∷ []) five_keys

abbrev pub id_column : Column
id_column = record { name = codes "id"; kind = Integer; is_strict = true; not_null = false; default = Null; collation = Binary }

abbrev pub own_columns : List Column
own_columns = id_column ∷ required_column (codes "version") Integer ∷ required_column (codes "state") Integer ∷ []

-- the table of the own state, whose one row has the id 1
abbrev pub own_table : ℕ → List Term → Table
own_table tree checks = record {
  name = own_name;
  tree = tree;
  columns = own_columns;
  key = Some 0;
  primary = 0 ∷ [];
  uniques = [];
  orders = [];
  checks = checks;
  references = [];
  computed = [];
  stamps = record { places = []; terms = []; formats = [] };
  is_counted = false;
}

-- id = 1
abbrev pub own_checks : List Term
own_checks = op2 (Compare Eq Binary) (col 1 0) (lit (Int (pos 1))) ∷ []

-- the table of the hosts in schema 1
abbrev pub first_hosts_columns : List Column
first_hosts_columns = required_column (codes "name") Blob ∷ required_column (codes "epoch") Integer ∷ required_column (codes "seen") Integer ∷ []

abbrev pub first_hosts_table : ℕ → Table
first_hosts_table tree = keyed_table first_hosts_name tree first_hosts_columns (1 ∷ []) one_key

-- where hosts were, which a file may have beside its other tables
abbrev pub addresses_name : List ℕ
addresses_name = codes "addresses"

abbrev pub addresses_text : List ℕ
addresses_text = codes "CREATE TABLE addresses (name BLOB NOT NULL PRIMARY KEY, address TEXT NOT NULL) STRICT"

abbrev pub addresses_columns : List Column
addresses_columns = required_column (codes "name") Blob ∷ required_column (codes "address") Text ∷ []

abbrev pub addresses_table : ℕ → Table
addresses_table tree = keyed_table addresses_name tree addresses_columns (1 ∷ []) one_key

abbrev pub no_schema : Schema
no_schema = record { tables = []; indexes = []; views = [] }

abbrev pub monitor_text : List ℕ
monitor_text = codes "INSERT INTO hosts2 (name, epoch, seen, quota) VALUES (?1, ?2, ?3, ?4)"

abbrev pub watch_text : List ℕ
watch_text = codes "INSERT INTO watches (mon, my, prog, vers, proc, priv) VALUES (?1, ?2, ?3, ?4, ?5, ?6)"

abbrev pub first_own_text : List ℕ
first_own_text = codes "INSERT INTO own (id, version, state) VALUES (1, 2, ?1)"

abbrev pub read_hosts_text : List ℕ
read_hosts_text = codes "SELECT rowid AS id, * FROM hosts2 ORDER BY 1"

abbrev pub read_own_text : List ℕ
read_own_text = codes "SELECT * FROM own"

abbrev pub read_watches_text : List ℕ
read_watches_text = codes "SELECT rowid AS id, * FROM watches ORDER BY 1"

abbrev pub set_own_text : List ℕ
set_own_text = codes "UPDATE own SET state = ?1"

abbrev pub delete_host_text : List ℕ
delete_host_text = codes "DELETE FROM hosts2 WHERE name = ?1"

abbrev pub delete_watch_text : List ℕ
delete_watch_text = codes "DELETE FROM watches WHERE mon = ?1 AND my = ?2 AND prog = ?3 AND vers = ?4 AND proc = ?5"

abbrev pub delete_watches_text : List ℕ
delete_watches_text = codes "DELETE FROM watches WHERE my = ?1 AND prog = ?2 AND vers = ?3 AND proc = ?4"

abbrev pub read_first_hosts_text : List ℕ
read_first_hosts_text = codes "SELECT rowid AS id, *, 65536 FROM hosts ORDER BY 1"

abbrev pub copy_hosts_text : List ℕ
copy_hosts_text = codes "INSERT INTO hosts2 (name, epoch, seen, quota) SELECT *, 65536 FROM hosts"

abbrev pub empty_hosts_text : List ℕ
empty_hosts_text = codes "DELETE FROM hosts"

abbrev pub second_own_text : List ℕ
second_own_text = codes "UPDATE own SET version = 2, state = ?1"

abbrev pub insert_address_text : List ℕ
insert_address_text = codes "INSERT INTO addresses (name, address) VALUES (?1, ?2)"

abbrev pub delete_address_text : List ℕ
delete_address_text = codes "DELETE FROM addresses WHERE name = ?1"

abbrev pub read_addresses_text : List ℕ
read_addresses_text = codes "SELECT rowid AS id, * FROM addresses ORDER BY 1"
