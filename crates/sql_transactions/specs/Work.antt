-- What the statements of a transaction do, and what it commits.
use Rattle.std.specs.Prelude.{◌≡◌, ℕ, true, None, Option, Ok, Err, List, IsTrue, Result, OnOk}
use Rattle.sqlite_value.specs.Order.{Row}
use Rattle.sqlite_trees.specs.Tree.{Trees}
use Rattle.sqlite_schema.specs.declared.command.Command.{Command}
use Rattle.sqlite_schema.specs.declared.command.Command.TheVariants.{Insert, Update, Delete, Nothing}
use Rattle.sqlite_resolve.specs.declared.compiled.Compiled.{Compiled}
use Rattle.sqlite_resolve.specs.declared.error.CompileError.{CompileError}
use Rattle.sqlite.specs.declared.run.Mode.{Mode}
use Rattle.sqlite.specs.Does.{Tally, Does}
use Rattle.sqlite.specs.State.{State, HasCleanDisk}
use Rattle.sqlite.specs.Given.{IsPlain}
use Rattle.sqlite.specs.Listing.{understood}
use Rattle.sqlite.specs.Effect.{Database, IsDatabase}

abbrev pub command_in : Result Compiled CompileError → Command
command_in (Ok c) = c.command
command_in (Err e) = Nothing

-- it writes the rows of one table
abbrev pub IsRowWrite : Command → Type 0
IsRowWrite (Insert at from) = Unit {0}
IsRowWrite (Update at q) = Unit {0}
IsRowWrite (Delete at q) = Unit {0}
IsRowWrite _ = ⊥

-- a text did what its command does
abbrev pub Ran : List ℕ → Row → Database → Database → Type 0
Ran sql params from to = (k : Command) → IsRowWrite k → command_in (understood from.schema sql) ≡ k → IsPlain (understood from.schema sql)
    → (text : List ℕ) × (limit : Option ℕ) × (mode : Mode) × (tally : Tally) × Does limit mode params from text None k (Ok (tally, to)) × IsDatabase to

-- two texts in turn
abbrev pub RanTwo : List ℕ → Row → List ℕ → Row → Database → Database → Type 0
RanTwo one given two more from to = (mid : Database) × Ran one given from mid × Ran two more mid to

-- three texts in turn
abbrev pub RanThree : List ℕ → Row → List ℕ → Row → List ℕ → Row → Database → Database → Type 0
RanThree one given two more three last from to = (mid : Database) × RanTwo one given two more from mid × Ran three last mid to

-- a transaction's work is the last commit
pub record Committed (Work : Database → Database → Type 0) (old new : State) : Type 0 where
  pub was_open : IsTrue old.is_open
  pub is_open : IsTrue new.is_open
  pub work : Work old.committed new.committed

-- what the transaction commits, if it gets that far
abbrev pub MayWork : (Database → Database → Type 0) → State → Trees → Type 0
MayWork Work old db = IsTrue old.is_open × (to : Database) × (to.trees ≡ db) × Work old.committed to

-- the work of a transaction so far, which has committed nothing
pub record HasWorked (Work : Database → Database → Type 0) (old new : State) : Type 0 where
  pub was_open : IsTrue old.is_open
  pub work : Work old.now new.now
  pub committed : new.committed ≡ old.committed
  pub mode : new.in_transaction ≡ true

-- in a transaction that is open, and on a disk that stayed clean, what didn't fail has done this work
abbrev pub WorksInside : {X E : Type 0} → Result X E → (Database → Database → Type 0) → State → State → Type 0
WorksInside result Work old new = HasCleanDisk new → IsTrue old.in_transaction → OnOk result (HasWorked Work old new)
