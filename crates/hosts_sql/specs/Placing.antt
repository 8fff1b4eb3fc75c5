-- What the statements on addresses do, and what stands behind them.
use Rattle.std.specs.Prelude.{◌≡◌, ℤ, Bool, true, is_some, [], ◌∷◌, Option, Some, None, IsTrue}
use Rattle.sqlite_value.specs.declared.value.Value.TheVariants.{Int, Text, Blob}
use Rattle.sqlite_value.specs.Order.{Row}
use Rattle.std.specs.List.{Contains}
use Rattle.sqlite_schema.specs.declared.schema.Schema.{Schema}
use Rattle.sqlite.specs.Effect.{Database}
use Rattle.sqlite.specs.State.{State, HasCleanDisk}
use Rattle.definitions.specs.Bytes.{Bytes}
use Rattle.sql_transactions.specs.Work.{RanTwo}
use Rattle.hosts_sql.specs.Tables.{addresses_name, insert_address_text, delete_address_text}
use Rattle.hosts_sql.specs.Schemas.{table_in}
use Rattle.hosts_sql.specs.Wrote.{rows_of}

abbrev pub named_given : Bytes → Row
named_given name = Blob name ∷ []

abbrev pub address_given : Bytes → Bytes → Row
address_given name text = Blob name ∷ Text text ∷ []

-- the address is put in the place of the one of its name
abbrev pub PutsAddress : Bytes → Bytes → Database → Database → Type 0
PutsAddress name text = RanTwo delete_address_text (named_given name) insert_address_text (address_given name text)

-- the first work, where there is one, and then the other
abbrev pub Behind : {A : Type 0} → (A → Database → Database → Type 0) → Option A → (Database → Database → Type 0) → Database → Database → Type 0
Behind First None Work from to = Work from to
Behind First (Some first) Work from to = (mid : Database) × First first from mid × Work mid to

-- there is a table of that name
abbrev pub has_addresses : Schema → Bool
has_addresses schema = is_some (table_in schema addresses_name)

-- where something is asked for, the last commit has a table of addresses, or has none
abbrev pub FindsAddresses : Bool → Bool → State → Type 0
FindsAddresses is_asked has s = HasCleanDisk s → IsTrue s.is_open → is_asked ≡ true → has_addresses s.committed.schema ≡ has

-- a row of the table of addresses
abbrev pub address_row : ℤ → Bytes → Bytes → Row
address_row id name text = Int id ∷ Blob name ∷ Text text ∷ []

-- there is a row with this name and this text
abbrev pub HasAddress : Bytes → Bytes → Database → Type 0
HasAddress name text d = (id : ℤ) × Contains (rows_of addresses_name d) (address_row id name text)
