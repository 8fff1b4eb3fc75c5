-- What a text that ran did.
use Rattle.std.proofs.Common.{◌≡◌, ℕ, List, None, Option, Ok, Err, Result, refl, ◌∙◌}
use Rattle.sqlite_value.specs.Order.{Row}
use Rattle.sqlite_schema.specs.declared.command.Command.{Command}
use Rattle.sqlite_schema.specs.declared.command.Command.TheVariants.{Insert, Update, Delete}
use Rattle.sqlite_resolve.specs.declared.compiled.Compiled.{Compiled}
use Rattle.sqlite_resolve.specs.declared.error.CompileError.{CompileError}
use Rattle.sqlite.specs.declared.run.Mode.{Mode}
use Rattle.sqlite.specs.Does.{Tally, Does}
use Rattle.sqlite.specs.Effect.{IsDatabase}
use Rattle.sqlite.specs.Listing.{understood}
use Rattle.sqlite.specs.State.{State, Executes, Runs, mode_of}
use Rattle.sqlite.proofs.Callers.{command_of, statement_of, runs_as}
use Rattle.sql_transactions.specs.Work.{command_in, IsRowWrite, Ran}

pub same_command : (r : Result Compiled CompileError) → command_of r ≡ command_in r
same_command (Ok c) = refl
same_command (Err e) = refl

did : (a b : State) (k : Command) (text : List ℕ) (params : Row) (count : ℕ) → IsRowWrite k → Runs a b None k text params count
    → (text : List ℕ) × (limit : Option ℕ) × (mode : Mode) × (tally : Tally) × Does limit mode params a.now text None k (Ok (tally, b.now)) × IsDatabase b.now
did a b (Insert at from) text params count w r = (text, a.step_limit, mode_of a, r.tally, r.changed, r.sound)
did a b (Update at q) text params count w r = (text, a.step_limit, mode_of a, r.tally, r.changed, r.sound)
did a b (Delete at q) text params count w r = (text, a.step_limit, mode_of a, r.tally, r.changed, r.sound)
did a b _ text params count w r = absurd w

pub ran_of : (sql : List ℕ) (params : Row) (a b : State) (count : ℕ) → Executes sql params a b (Ok count) → Ran sql params a.now b.now
ran_of sql params a b count h k w is plain =
    did a b k (statement_of sql (understood a.now.schema sql)) params count w (runs_as sql params a b a.now.schema refl k (same_command (understood a.now.schema sql) ∙ is) plain count h)
