-- What a text means under a schema that has its table, whatever other tables there are.
use Rattle.std.proofs.Common.{◌≡◌, ℕ, ◌+◌, ◌++◌, codes, slice_get, Some, None, Option, Ok, Err, List, true, false, [], ◌∷◌, refl, ap, ◌∙◌}
use Rattle.std.specs.Prelude.{nat_lt, ◌^◌}
use Rattle.sqlite_ast.specs.declared.Expr.{Expr, out-Expr}
use Rattle.sqlite_ast.specs.declared.Expr.TheOpen.{Expr-F, Shown-F}
use Rattle.sqlite_ast.specs.declared.Shown.{Shown, out-Shown}
use Rattle.sqlite_ast.specs.Layer.{ShownLayer}
use Rattle.sqlite_ast.specs.declared.Origin.TheVariants as origin
use Rattle.sqlite_ast.specs.declared.Core.{Core, out-Core}
use Rattle.sqlite_ast.specs.declared.Source.{Source, out-Source}
use Rattle.sqlite_ast.specs.declared.Sort.{Sort}
use Rattle.sqlite_ast.specs.declared.Select.{Select, out-Select}
use Rattle.sqlite_ast.specs.declared.Statement.{Statement}
use Rattle.sqlite_ast.specs.declared.Statement.TheVariants as written
use Rattle.sqlite_ast.specs.declared.Rows.{Rows}
use Rattle.sqlite_ast.specs.declared.Conflict.TheVariants as conflict
use Rattle.sqlite_syntax.specs.declared.statement.Parsed.{Parsed}
use Rattle.sqlite_schema.specs.declared.schema.Schema.{Schema}
use Rattle.sqlite_schema.specs.declared.schema.Table.{Table}
use Rattle.sqlite_schema.specs.declared.program.Program.{Program}
use Rattle.sqlite_schema.specs.declared.command.Source as to
use Rattle.sqlite_schema.specs.declared.command.Command.{Command}
use Rattle.sqlite_schema.specs.declared.command.Command.TheVariants as command
use Rattle.sqlite_schema.specs.Names.{table_named, column_named}
use Rattle.sqlite_draft.specs.declared.query.Draft.{Draft}
use Rattle.sqlite_resolve.specs.declared.compiled.Compiled.{Compiled}
use Rattle.sqlite_resolve.specs.declared.scope.Output.{Output}
use Rattle.sqlite_resolve.specs.declared.state.State.{State}
use Rattle.sqlite_resolve.specs.Lowering.{Checked, and_then}
use Rattle.sqlite_resolve.specs.Body.{result, outputs_from}
use Rattle.sqlite_resolve.specs.Select.{named, outermost}
use Rattle.sqlite_resolve.specs.Expr.{lower}
use Rattle.sqlite_resolve.specs.Program.{query, program}
use Rattle.sqlite_resolve.specs.Write.{updated, deleted}
use Rattle.sqlite_resolve.specs.Compile.{compiled, planned, meaning, timed, returning, first, read, insert_or_abort, insert, update, delete, new_rows, small, with_command}
use Rattle.sqlite_resolve.specs.Compile as compile
use Rattle.sqlite.specs.Listing.{understood, reads_listing}
use Rattle.sqlite.specs.Given.{IsPlain}
use Rattle.sql_transactions.specs.Work.{command_in}
use Rattle.hosts_sql.proofs.Selects.{bound_at, after_from, after_rowid, rowid_shown, level_of, over_table, starred, all_from, result_all, result_rowid, named_rest, named_is, no_page, Named, query_is, read_is}

-- ---- a text that was compiled

pub record Is (schema : Schema) (sql : List ℕ) (k : Command) : Type 0 where
  pub command : command_in (understood schema sql) ≡ k
  pub unlisted : reads_listing schema sql ≡ false
  pub plain : IsPlain (understood schema sql)

pub compiled_is : (schema : Schema) (sql : List ℕ) (c : Compiled) → compiled schema sql ≡ Ok c → IsPlain (Ok c) → Is schema sql c.command
unfolding understood
compiled_is schema sql c is plain = record { command = rw is; unlisted = rw is; plain = rw is plain }

select_is : (schema : Schema) (sql : List ℕ) (p : Parsed) (s : Select) (q : Program) (names : List (List ℕ)) → first sql ≡ Ok p → p.statement ≡ written.Select s → p.formats ≡ []
    → read schema s ≡ Ok (command.Select q names) → compiled schema sql ≡ Ok (with_command p ([], (command.Select q names, None)))
unfolding compiled planned meaning timed returning compile.command
select_is schema sql p s q names parsed is free given = rw (parsed, is, free, given)

-- ---- the parts of a SELECT of all columns

abbrev pub SourcesAre : List ℕ → List Source → Type 0
SourcesAre name [] = ⊥
SourcesAre name (source ∷ []) = out-Source source ≡ record { is_left = false; origin = origin.Table name; alias = None; on = None; using = [] }
SourcesAre name (source ∷ other ∷ more) = ⊥

-- all columns, and what else is shown
abbrev pub AllShown : Schema → List ℕ → ℕ → Table → Named → Core → List Sort → List Shown → Type 0
AllShown schema name at t n core order [] = ⊥
AllShown schema name at t n core order (star ∷ more) =
    (out-Shown star ≡ Shown-F.All) × (starred name at t [] ≡ Ok (all_from name at t []))
    × (and_then (outputs_from lower (over_table schema name at [] true) (bound_at name at ∷ []) (all_from name at t []) more after_from) (λ r. named_rest schema name at t core order no_page r.0 r.1) ≡ Ok n)

abbrev pub AsksAll : Schema → List ℕ → ℕ → Table → Named → Select → Type 0
AsksAll schema name at t n s =
    (out-Select s ≡ record { with = []; first = (out-Select s).first; others = []; order = (out-Select s).order; limit = None; offset = None })
    × ((out-Core (out-Select s).first).filter ≡ None) × SourcesAre name (out-Core (out-Select s).first).from
    × AllShown schema name at t n (out-Select s).first (out-Select s).order (out-Core (out-Select s).first).shown

abbrev pub ReadsAll : Schema → List ℕ → ℕ → Table → Named → Statement → Type 0
ReadsAll schema name at t n (written.Select s) = AsksAll schema name at t n s
ReadsAll schema name at t n _ = ⊥

sources_are : (name : List ℕ) (all : List Source) → SourcesAre name all → (source : Source) × (all ≡ source ∷ []) × (out-Source source ≡ record { is_left = false; origin = origin.Table name; alias = None; on = None; using = [] })
sources_are name [] h = absurd h
sources_are name (source ∷ []) h = (source, refl, h)
sources_are name (source ∷ other ∷ more) h = absurd h

-- an item, all columns, and what else is shown
abbrev pub RowidShown : Schema → List ℕ → ℕ → Table → Named → Core → List Sort → List Shown → ShownLayer → Type 0
RowidShown schema name at t n core order more Shown-F.All = ⊥
RowidShown schema name at t n core order more (Shown-F.AllOf table) = ⊥
RowidShown schema name at t n core order more (Shown-F.One e None text) = ⊥
RowidShown schema name at t n core order more (Shown-F.One e (Some id) text) =
    (out-Expr e ≡ Expr-F.Column None (codes "rowid")) × (starred name at t (rowid_shown id ∷ []) ≡ Ok (all_from name at t (rowid_shown id ∷ [])))
    × (and_then (outputs_from lower (over_table schema name at [] true) (bound_at name at ∷ []) (all_from name at t (rowid_shown id ∷ [])) more after_rowid) (λ r. named_rest schema name at t core order no_page r.0 r.1) ≡ Ok n)

abbrev pub NumberedShown : Schema → List ℕ → ℕ → Table → Named → Core → List Sort → List Shown → Type 0
NumberedShown schema name at t n core order [] = ⊥
NumberedShown schema name at t n core order (item ∷ []) = ⊥
NumberedShown schema name at t n core order (item ∷ star ∷ more) = (out-Shown star ≡ Shown-F.All) × RowidShown schema name at t n core order more (out-Shown item)

abbrev pub ReadsNumbered : Schema → List ℕ → ℕ → Table → Named → Statement → Type 0
ReadsNumbered schema name at t n (written.Select s) =
    (out-Select s ≡ record { with = []; first = (out-Select s).first; others = []; order = (out-Select s).order; limit = None; offset = None })
    × ((out-Core (out-Select s).first).filter ≡ None) × SourcesAre name (out-Core (out-Select s).first).from
    × NumberedShown schema name at t n (out-Select s).first (out-Select s).order (out-Core (out-Select s).first).shown
ReadsNumbered schema name at t n _ = ⊥

abbrev pub statement_in : Checked Parsed → Statement
statement_in (Ok p) = p.statement
statement_in (Err e) = written.Empty

abbrev pub formats_in : Checked Parsed → List (List ℕ)
formats_in (Ok p) = p.formats
formats_in (Err e) = []

module _ (schema : Schema) (name : List ℕ) (at : ℕ) (t : Table) (found : table_named schema name ≡ Some at) (got : slice_get schema.tables at ≡ Some t) where
  named_after : (n : Named) (core : Core) (order : List Sort) (source : Source) (r : Checked (List Output × State)) → (out-Core core).filter ≡ None → (out-Core core).from ≡ source ∷ []
      → out-Source source ≡ record { is_left = false; origin = origin.Table name; alias = None; on = None; using = [] } → result lower (outermost schema) (level_of name at []) core after_from ≡ r
      → and_then r (λ r. named_rest schema name at t core order no_page r.0 r.1) ≡ Ok n → named schema core order no_page ≡ Ok n
  named_after n core order source (Ok r) none from is shows h = named_is schema name at t got core order no_page source r.0 r.1 found from none is shows ∙ h
  named_after n core order source (Err e) none from is shows h = absurd cc

  all_shown : (n : Named) (core : Core) (order : List Sort) (source : Source) (items : List Shown) → (out-Core core).shown ≡ items → (out-Core core).filter ≡ None → (out-Core core).from ≡ source ∷ []
      → out-Source source ≡ record { is_left = false; origin = origin.Table name; alias = None; on = None; using = [] } → AllShown schema name at t n core order items → named schema core order no_page ≡ Ok n
  all_shown n core order source [] are none from is h = absurd h
  all_shown n core order source (star ∷ more) are none from is h = named_after n core order source _ none from is (result_all schema name at t got core (all_from name at t []) star more are h.0 h.1) h.2

  rowid_shown_is : (n : Named) (core : Core) (order : List Sort) (source : Source) (item star : Shown) (more : List Shown) (layer : ShownLayer) → (out-Core core).shown ≡ item ∷ star ∷ more → (out-Core core).filter ≡ None
      → (out-Core core).from ≡ source ∷ [] → out-Source source ≡ record { is_left = false; origin = origin.Table name; alias = None; on = None; using = [] } → out-Shown star ≡ Shown-F.All → out-Shown item ≡ layer
      → column_named t (codes "rowid") ≡ None → nat_lt t.tree (2 ^ 31) ≡ true → RowidShown schema name at t n core order more layer → named schema core order no_page ≡ Ok n
  rowid_shown_is n core order source item star more Shown-F.All are none from is all one free low h = absurd h
  rowid_shown_is n core order source item star more (Shown-F.AllOf table) are none from is all one free low h = absurd h
  rowid_shown_is n core order source item star more (Shown-F.One e None text) are none from is all one free low h = absurd h
  rowid_shown_is n core order source item star more (Shown-F.One e (Some id) text) are none from is all one free low h =
      named_after n core order source _ none from is (result_rowid schema name at t got core (all_from name at t (rowid_shown id ∷ [])) item star more e id text are one h.0 all free low h.1) h.2

  numbered_shown : (n : Named) (core : Core) (order : List Sort) (source : Source) (items : List Shown) → (out-Core core).shown ≡ items → (out-Core core).filter ≡ None → (out-Core core).from ≡ source ∷ []
      → out-Source source ≡ record { is_left = false; origin = origin.Table name; alias = None; on = None; using = [] } → column_named t (codes "rowid") ≡ None → nat_lt t.tree (2 ^ 31) ≡ true
      → NumberedShown schema name at t n core order items → named schema core order no_page ≡ Ok n
  numbered_shown n core order source [] are none from is free low h = absurd h
  numbered_shown n core order source (item ∷ []) are none from is free low h = absurd h
  numbered_shown n core order source (item ∷ star ∷ more) are none from is free low h = rowid_shown_is n core order source item star more (out-Shown item) are none from is h.0 refl free low h.1

  -- what is read of the table
  pub record Reads (n : Named) (q : Program) (statement : Statement) : Type 0 where
    pub select : Select
    pub is : statement ≡ written.Select select
    pub reads : read schema select ≡ Ok (command.Select q n.1)

  pub asks_all : (n : Named) (s : Select) → AsksAll schema name at t n s → query schema s ≡ Ok (n, [])
  asks_all n s h =
      let from = sources_are name (out-Core (out-Select s).first).from h.2 in
      let one = all_shown n (out-Select s).first (out-Select s).order from.0 (out-Core (out-Select s).first).shown refl h.1 from.1 from.2 h.3 in
      query_is schema name at t got s (out-Select s).first (out-Select s).order from.0 n h.0 from.1 from.2 one

  pub reads_all : (n : Named) (q : Program) (statement : Statement) → program schema [] n.0 ≡ Ok q → ReadsAll schema name at t n statement → Reads n q statement
  reads_all n q (written.Select s) typed h = record { select = s; is = refl; reads = read_is schema name at t got s n q (asks_all n s h) typed }
  reads_all n q _ typed h = absurd h

  pub reads_numbered : (n : Named) (q : Program) (statement : Statement) → program schema [] n.0 ≡ Ok q → column_named t (codes "rowid") ≡ None → nat_lt t.tree (2 ^ 31) ≡ true → ReadsNumbered schema name at t n statement → Reads n q statement
  reads_numbered n q (written.Select s) typed free low h =
      let from = sources_are name (out-Core (out-Select s).first).from h.2 in
      let one = numbered_shown n (out-Select s).first (out-Select s).order from.0 (out-Core (out-Select s).first).shown refl h.1 from.1 from.2 free low h.3 in
      record { select = s; is = refl; reads = read_is schema name at t got s n q (query_is schema name at t got s (out-Select s).first (out-Select s).order from.0 n h.0 from.1 from.2 one) typed }
  reads_numbered n q _ typed free low h = absurd h

  pub read_means : (n : Named) (q : Program) (sql : List ℕ) (p : Parsed) → first sql ≡ Ok p → p.formats ≡ [] → Reads n q p.statement → Is schema sql (command.Select q n.1)
  read_means n q sql p parsed free r = compiled_is schema sql (with_command p ([], (command.Select q n.1, None))) (select_is schema sql p r.select q n.1 parsed r.is free r.reads) (refl, refl)

-- ---- a text that writes

module _ (schema : Schema) (sql : List ℕ) (p : Parsed) (name : List ℕ) (at : ℕ) (t : Table) (parsed : first sql ≡ Ok p) (found : table_named schema name ≡ Some at) (got : slice_get schema.tables at ≡ Some t) where
  insert_is : (columns : List (List ℕ)) (rows : Rows) (source : to.Source) → p.statement ≡ written.Insert conflict.Abort name columns rows [] [] → new_rows schema t (small p.names + small (p.formats ++ t.stamps.formats)) columns rows ≡ Ok source
      → compiled schema sql ≡ Ok (with_command p (p.formats ++ t.stamps.formats, (command.Insert at source, None)))
  unfolding compiled planned meaning timed returning compile.command insert_or_abort insert compile.shows
  insert_is columns rows source is given = rw (parsed, is, found, got, given)

  delete_is : (test : Option Expr) (d : Draft) (q : Program) → p.statement ≡ written.Delete name test [] → deleted schema at t test ≡ Ok d → program schema [] d ≡ Ok q → compiled schema sql ≡ Ok (with_command p (p.formats, (command.Delete at q, None)))
  unfolding compiled planned meaning timed returning compile.command delete compile.shows
  delete_is test d q is given typed = rw (parsed, is, found, got, given, typed)

  update_is : (sets : List (List ℕ × Expr)) (test : Option Expr) (d : Draft) (q : Program) → p.statement ≡ written.Update name sets test [] → updated schema at t sets test ≡ Ok d → program schema [] d ≡ Ok q
      → compiled schema sql ≡ Ok (with_command p (p.formats, (command.Update at q, None)))
  unfolding compiled planned meaning timed returning compile.command update compile.shows
  update_is sets test d q is given typed = rw (parsed, is, found, got, given, typed)

  -- what is put into the table, where the text asks for no more
  abbrev pub Inserts : to.Source → Statement → Type 0
  Inserts source (written.Insert conflict.Abort other columns rows [] []) = (other ≡ name) × (new_rows schema t (small p.names + small (p.formats ++ t.stamps.formats)) columns rows ≡ Ok source)
  Inserts source _ = ⊥

  abbrev pub Deletes : Draft → Statement → Type 0
  Deletes d (written.Delete other test []) = (other ≡ name) × (deleted schema at t test ≡ Ok d)
  Deletes d _ = ⊥

  abbrev pub Updates : Draft → Statement → Type 0
  Updates d (written.Update other sets test []) = (other ≡ name) × (updated schema at t sets test ≡ Ok d)
  Updates d _ = ⊥

  pub inserts_mean : (source : to.Source) (s : Statement) → p.statement ≡ s → p.formats ++ t.stamps.formats ≡ [] → Inserts source s → Is schema sql (command.Insert at source)
  inserts_mean source (written.Insert conflict.Abort other columns rows [] []) is free h =
      compiled_is schema sql (with_command p (p.formats ++ t.stamps.formats, (command.Insert at source, None))) (insert_is columns rows source (is ∙ ap (λ n. written.Insert conflict.Abort n columns rows [] []) h.0) h.1) (refl, free)
  inserts_mean source _ is free h = absurd h

  pub deletes_mean : (d : Draft) (q : Program) (s : Statement) → p.statement ≡ s → p.formats ≡ [] → program schema [] d ≡ Ok q → Deletes d s → Is schema sql (command.Delete at q)
  deletes_mean d q (written.Delete other test []) is free typed h =
      compiled_is schema sql (with_command p (p.formats, (command.Delete at q, None))) (delete_is test d q (is ∙ ap (λ n. written.Delete n test []) h.0) h.1 typed) (refl, free)
  deletes_mean d q _ is free typed h = absurd h

  pub updates_mean : (d : Draft) (q : Program) (s : Statement) → p.statement ≡ s → p.formats ≡ [] → program schema [] d ≡ Ok q → Updates d s → Is schema sql (command.Update at q)
  updates_mean d q (written.Update other sets test []) is free typed h =
      compiled_is schema sql (with_command p (p.formats, (command.Update at q, None))) (update_is sets test d q (is ∙ ap (λ n. written.Update n sets test []) h.0) h.1 typed) (refl, free)
  updates_mean d q _ is free typed h = absurd h
