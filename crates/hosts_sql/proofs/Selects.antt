-- What a SELECT of all columns of one table means, whatever other tables there are.
use Rattle.std.proofs.Common.{◌≡◌, ℕ, codes, slice_get, Some, None, Option, Ok, Err, List, Bool, true, false, not, ◌&&◌, ◌==◌, [], ◌∷◌, length, map}
use Rattle.std.specs.Prelude.{nat_lt, ◌^◌, pos, negsuc, if◌then◌else◌}
use Rattle.sqlite_value.specs.declared.keys.Collation.{Collation}
use Rattle.sqlite_sql.specs.Term.{Term, lit, col}
use Rattle.sqlite_ast.specs.declared.Expr.{Expr, out-Expr}
use Rattle.sqlite_ast.specs.declared.Expr.TheOpen.{Expr-F, Shown-F}
use Rattle.sqlite_ast.specs.declared.Shown.{Shown, out-Shown}
use Rattle.sqlite_ast.specs.declared.Origin.TheVariants as origin
use Rattle.sqlite_ast.specs.declared.Core.{Core, out-Core}
use Rattle.sqlite_ast.specs.declared.Source.{Source, out-Source}
use Rattle.sqlite_ast.specs.declared.Sort.{Sort}
use Rattle.sqlite_draft.specs.declared.join.Step.TheVariants.{Inner}
use Rattle.sqlite_draft.specs.declared.query.Draft.{Draft}
use Rattle.sqlite_schema.specs.declared.schema.Schema.{Schema}
use Rattle.sqlite_schema.specs.declared.schema.Table.{Table}
use Rattle.sqlite_schema.specs.Names.{same_name, table_named, column_named}
use Rattle.sqlite_resolve.specs.declared.scope.Bound.{Bound}
use Rattle.sqlite_resolve.specs.declared.scope.Level.{Level}
use Rattle.sqlite_resolve.specs.declared.scope.Output.{Output}
use Rattle.sqlite_resolve.specs.declared.state.State.{State}
use Rattle.sqlite_resolve.specs.declared.body.Body.{Body}
use Rattle.sqlite_resolve.specs.declared.body.Joined.{Joined}
use Rattle.sqlite_resolve.specs.declared.select.Clauses.{Clauses}
use Rattle.sqlite_resolve.specs.declared.error.CompileError.TheVariants.{TooBig, NoSuchTable}
use Rattle.sqlite_resolve.specs.Lowering.{Checked, and_then, ◌>>=◌, Lowering, pure, get, fresh, max_budget, nothing, take_slot, spend, begin, finish}
use Rattle.sqlite_resolve.specs.Scope.{Context, column, find, in_level, only, hit, column_in, rowid_in, is_rowid, is_among, term_of}
use Rattle.sqlite_resolve.specs.Body.{bounds, bound, table_in, result, matching, body, shown, outputs, outputs_from, stars, columns_of, columns_from, is_column, joins, join, shared, tests, inner_join}
use Rattle.sqlite_resolve.specs.Select.{named, parts, assembled, outermost, inside, having}
use Rattle.sqlite_resolve.specs.Order.{keys, sorts}
use Rattle.sqlite_ast.specs.declared.Select.{Select, out-Select}
use Rattle.sqlite_value.specs.declared.value.Value.TheVariants.{Int}
use Rattle.sqlite_schema.specs.declared.program.Program.{Program}
use Rattle.sqlite_schema.specs.declared.command.Command.TheVariants as command
use Rattle.sqlite_resolve.specs.Select.{paging, constant_or}
use Rattle.sqlite_resolve.specs.Program.{query, query_to, level, with, whole, alone, single, sources, viewing, program}
use Rattle.sqlite_resolve.specs.Compile.{read}
use Rattle.sqlite_resolve.specs.Expr.{lower, lower_to, node, opened, passes}

-- ---- FROM

abbrev pub bound_at : List ℕ → ℕ → Bound
bound_at name at = record { name = name; table = at; slot = 1; shared = [] }

abbrev pub after_from : State
after_from = record (fresh 1 max_budget) { next = 2 }

pub bounds_is : (schema : Schema) (source : Source) (name : List ℕ) (at : ℕ) → out-Source source ≡ record { is_left = false; origin = origin.Table name; alias = None; on = None; using = [] }
    → table_named schema name ≡ Some at → bounds schema (source ∷ []) (fresh 1 max_budget) ≡ Ok (bound_at name at ∷ [], after_from)
unfolding bounds bound table_in take_slot
bounds_is schema source name at is found = rw (is, found)

-- ---- the parts of a SELECT

abbrev pub level_of : List ℕ → ℕ → List Output → Level
level_of name at columns = record { tables = bound_at name at ∷ []; shown = columns }

abbrev pub over_table : Schema → List ℕ → ℕ → List Output → Bool → Context
over_table schema name at columns may_aggregate = record { schema = schema; levels = level_of name at columns ∷ []; may_aggregate = may_aggregate; may_alias = true }

-- the state once the rowid is read
abbrev pub after_rowid : State
after_rowid = record after_from { budget = 99999 }

abbrev pub rowid_shown : List ℕ → Output
rowid_shown id = record { name = id; is_alias = true; is_column = true; term = col 1 0; carried = nothing }

abbrev pub all_from : List ℕ → ℕ → Table → List Output → List Output
all_from name at t done = columns_from None t (bound_at name at) 0 done t.columns

abbrev pub starred : List ℕ → ℕ → Table → List Output → Checked (List Output)
starred name at t done =
    let all = all_from name at t done in
    if nat_lt 2000 (length all) then Err TooBig else (if nat_lt (length done) (length all) then Ok all else Err NoSuchTable)

abbrev pub joined : Table → Joined
joined t = record { steps = Inner t.tree ∷ []; filter = [] }

abbrev pub whole_of : List ℕ → ℕ → Table → List Output → Body
whole_of name at t columns = record { level = level_of name at columns; steps = Inner t.tree ∷ []; filter = [] }

abbrev pub parts_rest : Schema → Core → List Sort → Body → Lowering Clauses
parts_rest schema core by_order whole = do
  so_far ← get
  let is_grouped = not (length (out-Core core).group == 0 && length so_far.aggregates == 0)
  by ← keys lower (inside schema whole.level false) whole.level.shown (out-Core core).group
  kept ← having (inside schema whole.level is_grouped) (out-Core core).having
  order ← sorts lower (inside schema whole.level is_grouped) whole.level.shown by_order
  pure (record { body = whole; is_grouped = is_grouped; keys = by.0; collations = by.1; having = kept; order = order })

abbrev pub Named : Type 0
Named = Draft × List (List ℕ) × List (Option Collation)

abbrev pub named_rest : Schema → List ℕ → ℕ → Table → Core → List Sort → Term × Term → List Output → State → Checked Named
named_rest schema name at t core order page columns s =
    and_then (parts_rest schema core order (whole_of name at t columns) s) (λ r.
    and_then (assembled (out-Core core).distinct page.0 page.1 r.0 r.1) (λ d. Ok (d, map (λ o. o.name) r.0.body.level.shown, map (λ o. o.carried.collation) r.0.body.level.shown)))

abbrev pub no_page : Term × Term
no_page = (lit (Int (negsuc 0)), lit (Int (pos 0)))

-- ---- the rowid

module _ (schema : Schema) (name : List ℕ) (at : ℕ) (t : Table) (got : slice_get schema.tables at ≡ Some t) where
  rowid_is : (columns : List Output) (may : Bool) (s : State) → column_named t (codes "rowid") ≡ None → nat_lt t.tree (2 ^ 31) ≡ true
      → column (over_table schema name at columns may) None (codes "rowid") s ≡ Ok (col 1 0, record s { last = nothing })
  unfolding column find in_level only hit column_in rowid_in is_rowid is_among term_of same_name
  rowid_is columns may s none low = rw (got, none, low)

  lower_rowid : (columns : List Output) (may : Bool) (e : Expr) → out-Expr e ≡ Expr-F.Column None (codes "rowid") → column_named t (codes "rowid") ≡ None → nat_lt t.tree (2 ^ 31) ≡ true
      → lower (over_table schema name at columns may) e after_from ≡ Ok (col 1 0, after_rowid)
  unfolding lower_to node opened passes spend begin finish
  lower_rowid columns may e is none low = rw (is, rowid_is columns may (record after_from { budget = 99999 }) none low)

  shown_rowid : (columns : List Output) (may : Bool) (tables : List Bound) (item : Shown) (e : Expr) (id text : List ℕ) → out-Shown item ≡ Shown-F.One e (Some id) text → out-Expr e ≡ Expr-F.Column None (codes "rowid")
      → column_named t (codes "rowid") ≡ None → nat_lt t.tree (2 ^ 31) ≡ true → shown lower (over_table schema name at columns may) tables [] item after_from ≡ Ok (rowid_shown id ∷ [], after_rowid)
  unfolding shown is_column
  shown_rowid columns may tables item e id text one is none low = rw (one, lower_rowid columns may e is none low, is)

  stars_are : (done : List Output) → stars schema None done (bound_at name at ∷ []) ≡ starred name at t done
  unfolding stars columns_of
  stars_are done = rw got

  matching_is : (columns : List Output) (core : Core) (source : Source) (s : State) → (out-Core core).from ≡ source ∷ [] → (out-Core core).filter ≡ None
      → out-Source source ≡ record { is_left = false; origin = origin.Table name; alias = None; on = None; using = [] } → matching lower (outermost schema) (level_of name at columns) core s ≡ Ok (joined t, s)
  unfolding matching joins join shared tests inner_join
  matching_is columns core source s from none is = rw (from, is, none, got)

  shown_star : (may : Bool) (done all : List Output) (star : Shown) (s : State) → out-Shown star ≡ Shown-F.All → starred name at t done ≡ Ok all
      → shown lower (over_table schema name at [] may) (bound_at name at ∷ []) done star s ≡ Ok (all, s)
  unfolding shown
  shown_star may done all star s is given = rw (is, stars_are done, given)

  pub result_all : (core : Core) (all : List Output) (star : Shown) (more : List Shown) → (out-Core core).shown ≡ star ∷ more → out-Shown star ≡ Shown-F.All → starred name at t [] ≡ Ok all
      → result lower (outermost schema) (level_of name at []) core after_from ≡ outputs_from lower (over_table schema name at [] true) (bound_at name at ∷ []) all more after_from
  unfolding result outputs
  result_all core all star more are is given = rw (are, shown_star true [] all star after_from is given)

  pub result_rowid : (core : Core) (all : List Output) (item star : Shown) (more : List Shown) (e : Expr) (id text : List ℕ) → (out-Core core).shown ≡ item ∷ star ∷ more
      → out-Shown item ≡ Shown-F.One e (Some id) text → out-Expr e ≡ Expr-F.Column None (codes "rowid") → out-Shown star ≡ Shown-F.All
      → column_named t (codes "rowid") ≡ None → nat_lt t.tree (2 ^ 31) ≡ true → starred name at t (rowid_shown id ∷ []) ≡ Ok all
      → result lower (outermost schema) (level_of name at []) core after_from ≡ outputs_from lower (over_table schema name at [] true) (bound_at name at ∷ []) all more after_rowid
  unfolding result outputs
  result_rowid core all item star more e id text are one is other none low given =
      rw (are, shown_rowid [] true (bound_at name at ∷ []) item e id text one is none low, shown_star true (rowid_shown id ∷ []) all star after_rowid other given)

  pub named_is : (core : Core) (order : List Sort) (page : Term × Term) (source : Source) (columns : List Output) (s : State) → table_named schema name ≡ Some at
      → (out-Core core).from ≡ source ∷ [] → (out-Core core).filter ≡ None → out-Source source ≡ record { is_left = false; origin = origin.Table name; alias = None; on = None; using = [] }
      → result lower (outermost schema) (level_of name at []) core after_from ≡ Ok (columns, s) → named schema core order page ≡ named_rest schema name at t core order page columns s
  unfolding named parts body
  named_is core order page source columns s found from none is shown = rw (from, bounds_is schema source name at is found, shown, matching_is columns core source s from none is)

  pub query_is : (s : Select) (core : Core) (order : List Sort) (source : Source) (n : Named) → out-Select s ≡ record { with = []; first = core; others = []; order = order; limit = None; offset = None }
      → (out-Core core).from ≡ source ∷ [] → out-Source source ≡ record { is_left = false; origin = origin.Table name; alias = None; on = None; using = [] }
      → named schema core order no_page ≡ Ok n → query schema s ≡ Ok (n, [])
  unfolding query query_to level with whole paging constant_or alone single sources Rattle.sqlite_resolve.specs.Program.source viewing
  query_is s core order src n is from of given = rw (is, from, of, given)

  pub read_is : (s : Select) (n : Named) (p : Program) → query schema s ≡ Ok (n, []) → program schema [] n.0 ≡ Ok p → read schema s ≡ Ok (command.Select p n.1)
  unfolding read
  read_is s n p asked typed = rw (asked, typed)
