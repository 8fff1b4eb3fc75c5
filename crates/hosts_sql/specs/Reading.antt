-- What is read of the tables.
use Rattle.std.specs.Prelude.{◌≡◌, ℕ, false, pos, [], ◌∷◌, map, List, None, ⊤}
use Rattle.std.specs.FinMap.{FinMap, find, get, insert, entries, from_entries}
use Rattle.definitions.specs.Bytes.{bytes_cmp}
use Rattle.definitions.specs.Hosts.{HostRow, Watch}
use Rattle.hosts_sql.specs.Maps.{key_cmp, host_row, watch_row}
use Rattle.hosts_sql.specs.Shown.{host_of, watch_of}
use Rattle.sqlite_value.specs.declared.value.Value.TheVariants.{Int}
use Rattle.sqlite_value.specs.Order.{Row, column}
use Rattle.sqlite_schema.specs.declared.program.Program.{Program}
use Rattle.sqlite_schema.specs.declared.command.Command.TheVariants.{Select}
use Rattle.sql_transactions.specs.Work.{command_in}
use Rattle.sqlite.specs.Listing.{understood, reads_listing}
use Rattle.sqlite.specs.Effect.{Database, Answers}
use Rattle.std.specs.declared.cmp.Ordering.{Ordering}

-- the rows are what the query shows
abbrev pub Tells : List ℕ → Database → List Row → Type 0
Tells sql db rows =
    (q : Program) (names : List (List ℕ)) → command_in (understood db.schema sql) ≡ Select q names
    → reads_listing db.schema sql ≡ false → Answers db q [] rows

-- one row, of this version
abbrev pub ShowsOwn : ℕ → List Row → ℕ → Type 0
ShowsOwn version rows own = (row : Row) × (rows ≡ row ∷ []) × (column row 0 ≡ Int (pos 1)) × (column row 1 ≡ Int (pos version)) × (column row 2 ≡ Int (pos own))

-- no two have keys that tie
abbrev pub AreApart : {K X : Type 0} → (K → K → Ordering) → List (K × X) → Type 0
AreApart R [] = ⊤
AreApart R (e ∷ es) = (find R e.0 es ≡ None) × AreApart R es

-- a host with its rowid
abbrev pub host_shown : Row → Row
host_shown row = column row 0 ∷ column row 1 ∷ column row 2 ∷ column row 3 ∷ column row 4 ∷ []

-- a watch with its rowid
abbrev pub watch_shown : Row → Row
watch_shown row = column row 0 ∷ column row 1 ∷ column row 2 ∷ column row 3 ∷ column row 4 ∷ column row 5 ∷ column row 6 ∷ []

-- each row was inserted, and its key was new
abbrev pub KeepsAll : {K X : Type 0} {R : K → K → Ordering} → (Row → K × X) → FinMap R X → List Row → FinMap R X → Type 0
KeepsAll f before [] after = after ≡ before
KeepsAll f before (row ∷ rows) after = (get before (f row).0 ≡ None) × KeepsAll f (insert before (f row).0 (f row).1) rows after

-- the rows of a tree as a store shows them
abbrev pub hosts_of_tree : List Row → List HostRow
hosts_of_tree rows = map host_row (entries (from_entries {R = bytes_cmp} (map host_of rows)))

abbrev pub watches_of_tree : List Row → List Watch
watches_of_tree rows = map watch_row (entries (from_entries {R = key_cmp} (map watch_of rows)))
