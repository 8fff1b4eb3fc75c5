-- What a text that makes a table does.
use Rattle.std.specs.Prelude.{◌≡◌, ℕ, false, [], List, Ok, Err, Result}
use Rattle.sqlite_schema.specs.declared.schema.Table.{Table}
use Rattle.sqlite_schema.specs.declared.schema.Schema.{Schema}
use Rattle.sqlite_schema.specs.declared.command.Command.TheVariants.{CreateTable}
use Rattle.sqlite_resolve.specs.Compile.{table_defined_by}
use Rattle.sqlite_resolve.specs.declared.compiled.Compiled.{Compiled}
use Rattle.sqlite_resolve.specs.declared.error.CompileError.{CompileError}
use Rattle.sqlite_catalog.specs.Change.{created, next_tree, KeepsRows}
use Rattle.sqlite.specs.Does.{lacks_sequence}
use Rattle.sqlite.specs.Effect.{Database, IsDatabase}
use Rattle.sqlite.specs.Given.{IsPlain}
use Rattle.sqlite.specs.Listing.{understood}
use Rattle.sqlite.specs.State.{text_of}
use Rattle.sql_transactions.specs.Work.{command_in}

-- the text of the one statement
abbrev pub text_in : List ℕ → Result Compiled CompileError → List ℕ
text_in sql (Ok c) = text_of sql c
text_in sql (Err e) = []

-- the text is one statement, which defines this table
pub record Defines (schema : Schema) (text : List ℕ) (table : Table) : Type 0 where
  pub command : command_in (understood schema text) ≡ CreateTable
  pub statement : text_in text (understood schema text) ≡ text
  pub plain : IsPlain (understood schema text)
  pub defined : table_defined_by text ≡ Ok table
  pub uncounted : lacks_sequence (created schema table) ≡ false

-- the table is made, and the rows of the others stay
pub record Created (schema : Schema) (table : Table) (old new : Database) : Type 0 where
  pub makes : new.schema ≡ created schema table
  pub empty : new.trees (next_tree schema) ≡ []
  pub others : KeepsRows schema.tables old.trees new.trees
  pub sound : IsDatabase new

-- the text makes the table that it defines
abbrev pub MakesTable : List ℕ → Database → Database → Type 0
MakesTable text from to = (schema : Schema) (table : Table) → from.schema ≡ schema → Defines schema text table → Created schema table from to
