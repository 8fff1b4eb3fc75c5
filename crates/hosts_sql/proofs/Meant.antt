-- What the texts of the upgrade mean.
use Rattle.std.proofs.Common.{◌≡◌, ℕ, true, false, not, ◌&&◌, ◌==◌, codes, pos, negsuc, List, [], ◌∷◌, ◌++◌, length, Some, None, Ok, refl, sym, ap, subst}
use Rattle.sqlite_value.specs.declared.value.Value.TheVariants.{Null, Int}
use Rattle.sqlite_value.specs.declared.keys.Collation.{Collation}
use Rattle.sqlite_value.specs.declared.keys.Collation.TheVariants.{Binary}
use Rattle.sqlite_sql.specs.Term.{Term, lit, col}
use Rattle.sqlite_sql.specs.Query.{Query, inner, end}
use Rattle.sqlite_ast.specs.declared.CreateTable.{CreateTable}
use Rattle.sqlite_ast.specs.declared.Rows.TheVariants as rows
use Rattle.sqlite_ast.specs.declared.Select.{Select}
use Rattle.sqlite_ast.specs.declared.Statement.{Statement}
use Rattle.sqlite_ast.specs.declared.Statement.TheVariants as written
use Rattle.sqlite_ast.specs.declared.Conflict.TheVariants as conflict
use Rattle.sqlite_syntax.specs.declared.statement.Parsed.{Parsed}
use Rattle.sqlite_schema.specs.declared.schema.Schema.{Schema}
use Rattle.sqlite_schema.specs.declared.schema.Table.{Table}
use Rattle.sqlite_schema.specs.declared.program.Program.{Program}
use Rattle.sqlite_schema.specs.declared.command.Source.TheVariants as source
use Rattle.sqlite_schema.specs.declared.command.Command.TheVariants as command
use Rattle.sqlite_schema.specs.Names.{table_named, index_named}
use Rattle.sqlite_draft.specs.declared.query.Draft.{Draft}
use Rattle.sqlite_resolve.specs.Program.{query, program}
use Rattle.sqlite_resolve.specs.Write.{places, inserted, selected, as_row}
use Rattle.sqlite_resolve.specs.Compile.{first, new_rows, small, compiled, planned, meaning, timed, returning, create_table, creates, is_attached, is_reserved, with_command, table_defined_by}
use Rattle.sqlite_resolve.specs.Compile as compile
use Rattle.sqlite_resolve.specs.Define as define
use Rattle.sqlite_typing.specs.Types.{table_classes, row_classes}
use Rattle.sqlite_tied.specs.Compute.{everything}
use Rattle.sqlite.specs.Listing.{understood}
use Rattle.sqlite.specs.State.{text_of}
use Rattle.hosts_sql.specs.Making.{text_in}
use Rattle.hosts_sql.specs.Tables.{hosts_name, first_hosts_name, hosts_text, hosts_table, first_hosts_table, copy_hosts_text}
use Rattle.hosts_sql.proofs.Selects.{Named}
use Rattle.hosts_sql.proofs.Means.{Is, AsksAll, asks_all, Inserts, inserts_mean, compiled_is}
use Rattle.hosts_sql.proofs.Places.{Has, classes_are}
use Rattle.hosts_sql.proofs.Texts.{parse_of, statement_of, IsParsed, alone}

-- a host's row without its rowid, and the full quota
abbrev pub copy_terms : List Term
copy_terms = lit Null ∷ col 1 1 ∷ col 1 2 ∷ col 1 3 ∷ lit (Int (pos 65536)) ∷ []

abbrev pub copy_query : ℕ → Query
copy_query tree = record {
  from = inner tree end;
  filter = [];
  group = None;
  project = copy_terms;
  distinct = false;
  collations = Binary ∷ Binary ∷ Binary ∷ Binary ∷ Binary ∷ [];
  order = [];
  limit = lit (Int (negsuc 0));
  offset = lit (Int (pos 0));
}

abbrev copy_draft : ℕ → List Term → List Collation → Draft
copy_draft tree terms by = record {
  from = inner tree end;
  filter = [];
  group = None;
  project = terms;
  distinct = false;
  collations = by;
  order = [];
  limit = lit (Int (negsuc 0));
  offset = lit (Int (pos 0));
}

abbrev copy_named : ℕ → Named
copy_named tree =
    (copy_draft tree (col 1 1 ∷ col 1 2 ∷ col 1 3 ∷ lit (Int (pos 65536)) ∷ []) [], (codes "name" ∷ codes "epoch" ∷ codes "seen" ∷ codes "65536" ∷ []), (Some Binary ∷ Some Binary ∷ Some Binary ∷ None ∷ []))

copy_parsed : IsParsed copy_hosts_text
unfolding everything
copy_parsed = (refl, refl)

-- the rows of a query, as a table keeps them
rows_are : (schema : Schema) (t : Table) (base : ℕ) (columns : List (List ℕ)) (s : Select) (n : Named) (at : List ℕ) (r : List Term × List Collation) (q : Program) → places t columns ≡ Ok at → query schema s ≡ Ok (n, []) → as_row t base at n.0 ≡ Ok r
    → program schema [] (record n.0 { project = r.0; collations = r.1 }) ≡ Ok q → new_rows schema t base columns (rows.Select s) ≡ Ok (source.Query q)
unfolding new_rows inserted selected compile.source_of compile.queried
rows_are schema t base columns s n at r q placed asked rowed typed = rw (placed, asked, rowed, typed)

copy_typed : (schema : Schema) (tree : ℕ) → table_classes schema [] tree ≡ Some (row_classes (first_hosts_table tree)) → program schema [] (copy_draft tree copy_terms (Binary ∷ Binary ∷ Binary ∷ Binary ∷ Binary ∷ [])) ≡ Ok (alone (copy_query tree))
unfolding program
copy_typed schema tree classes = rw classes

-- what the text puts into the table: the rows of the query
abbrev Copies : Schema → ℕ → ℕ → ℕ → Statement → Type 0
Copies schema at tree other (written.Insert conflict.Abort name columns (rows.Select s) [] []) =
    (name ≡ hosts_name) × (places (hosts_table tree) columns ≡ Ok (1 ∷ 2 ∷ 3 ∷ 4 ∷ [])) × AsksAll schema first_hosts_name at (first_hosts_table other) (copy_named other) s
Copies schema at tree other _ = ⊥

copies : (schema : Schema) (at tree other : ℕ) → Copies schema at tree other (statement_of copy_hosts_text)
unfolding everything
copies schema at tree other = (refl, refl, (refl, refl, refl, (refl, refl, refl)))

copied_row : (tree base other : ℕ) → as_row (hosts_table tree) base (1 ∷ 2 ∷ 3 ∷ 4 ∷ []) (copy_named other).0 ≡ Ok (copy_terms, Binary ∷ Binary ∷ Binary ∷ Binary ∷ Binary ∷ [])
unfolding everything
copied_row tree base other = refl

module _ (schema : Schema) (tree other : ℕ) (h : Has schema (hosts_table tree)) (from : Has schema (first_hosts_table other)) where
  copied_rows : (base : ℕ) (columns : List (List ℕ)) (s : Select) → places (hosts_table tree) columns ≡ Ok (1 ∷ 2 ∷ 3 ∷ 4 ∷ []) → AsksAll schema first_hosts_name from.at (first_hosts_table other) (copy_named other) s
      → new_rows schema (hosts_table tree) base columns (rows.Select s) ≡ Ok (source.Query (alone (copy_query other)))
  copied_rows base columns s placed asks =
      rows_are schema (hosts_table tree) base columns s (copy_named other) (1 ∷ 2 ∷ 3 ∷ 4 ∷ []) (copy_terms, Binary ∷ Binary ∷ Binary ∷ Binary ∷ Binary ∷ []) (alone (copy_query other)) placed
      (asks_all schema first_hosts_name from.at (first_hosts_table other) from.named from.got (copy_named other) s asks) (copied_row tree base other) (copy_typed schema other (classes_are schema (first_hosts_table other) from))

  abbrev Puts : Statement → Type 0
  Puts = Inserts schema copy_hosts_text (parse_of (first copy_hosts_text)) hosts_name h.at (hosts_table tree) copy_parsed.0 h.named h.got (source.Query (alone (copy_query other)))

  puts : (statement : Statement) → Copies schema from.at tree other statement → Puts statement
  puts (written.Insert conflict.Abort name columns (rows.Select s) [] []) c = (c.0, copied_rows _ columns s c.1 c.2)
  puts _ c = absurd c

  pub copy_is : Is schema copy_hosts_text (command.Insert h.at (source.Query (alone (copy_query other))))
  copy_is =
      inserts_mean schema copy_hosts_text (parse_of (first copy_hosts_text)) hosts_name h.at (hosts_table tree) copy_parsed.0 h.named h.got (source.Query (alone (copy_query other))) (statement_of copy_hosts_text) refl (ap (λ fs. fs ++ []) copy_parsed.1)
      (puts (statement_of copy_hosts_text) (copies schema from.at tree other))

-- ---- the new table

-- the text makes this table, and asks for no more
abbrev pub MakesNamed : List ℕ → Parsed → Table → Statement → Type 0
MakesNamed name p t (written.CreateTable def) =
    (def.name ≡ name) × (define.table p.formats def ≡ Ok t) × (((length t.computed == length t.stamps.places) && not def.resolves) ≡ true)
MakesNamed name p t _ = ⊥

create_is : (schema : Schema) (sql : List ℕ) (p : Parsed) (def : CreateTable) (t : Table) → first sql ≡ Ok p → p.statement ≡ written.CreateTable def → schema.views ≡ [] → is_reserved def.name ≡ false → table_named schema def.name ≡ None → index_named schema def.name ≡ None
    → define.table p.formats def ≡ Ok t → ((length t.computed == length t.stamps.places) && not def.resolves) ≡ true → compiled schema sql ≡ Ok (with_command p ([], (command.CreateTable, None)))
unfolding compiled planned meaning timed returning compile.command create_table creates is_attached
create_is schema sql p def t parsed is views free untaken unindexed made whole = rw (parsed, is, views, free, untaken, unindexed, made, whole)

module _ (schema : Schema) (name : List ℕ) (views : schema.views ≡ []) (free : is_reserved name ≡ false) (untaken : table_named schema name ≡ None) (unindexed : index_named schema name ≡ None) where
  pub creates_mean : (sql : List ℕ) (p : Parsed) (t : Table) (statement : Statement) → first sql ≡ Ok p → p.statement ≡ statement → MakesNamed name p t statement → compiled schema sql ≡ Ok (with_command p ([], (command.CreateTable, None)))
  creates_mean sql p t (written.CreateTable def) parsed is h =
      let back = sym h.0 in
      create_is schema sql p def t parsed is views (subst (λ n. is_reserved n ≡ false) back free) (subst (λ n. table_named schema n ≡ None) back untaken) (subst (λ n. index_named schema n ≡ None) back unindexed) h.1 h.2
  creates_mean sql p t _ parsed is h = absurd h

hosts_made : MakesNamed hosts_name (parse_of (first hosts_text)) (hosts_table 0) (statement_of hosts_text)
unfolding everything
hosts_made = (refl, refl, refl)

hosts_parsed : first hosts_text ≡ Ok (parse_of (first hosts_text))
unfolding everything
hosts_parsed = refl

hosts_whole : text_of hosts_text (with_command (parse_of (first hosts_text)) ([], (command.CreateTable, None))) ≡ hosts_text
unfolding everything
hosts_whole = refl

unreserved : is_reserved hosts_name ≡ false
unfolding everything
unreserved = refl

module _ (schema : Schema) (views : schema.views ≡ []) (untaken : table_named schema hosts_name ≡ None) (unindexed : index_named schema hosts_name ≡ None) where
  -- the text is one statement, which makes the table of the hosts
  pub hosts_defined : compiled schema hosts_text ≡ Ok (with_command (parse_of (first hosts_text)) ([], (command.CreateTable, None)))
  hosts_defined = creates_mean schema hosts_name views unreserved untaken unindexed hosts_text (parse_of (first hosts_text)) (hosts_table 0) (statement_of hosts_text) hosts_parsed refl hosts_made

  pub hosts_command : Is schema hosts_text command.CreateTable
  hosts_command = compiled_is schema hosts_text (with_command (parse_of (first hosts_text)) ([], (command.CreateTable, None))) hosts_defined (refl, refl)

  pub hosts_statement : text_in hosts_text (understood schema hosts_text) ≡ hosts_text
  unfolding understood
  hosts_statement = rw hosts_defined hosts_whole
