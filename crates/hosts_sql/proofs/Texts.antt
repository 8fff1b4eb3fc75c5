-- What the texts mean, in any schema that has their tables.
use Rattle.std.proofs.Common.{◌≡◌, ℕ, false, codes, Some, None, Ok, List, [], ◌∷◌, refl}
use Rattle.std.specs.Prelude.{pos, negsuc, Err}
use Rattle.sqlite_value.specs.declared.value.Value.TheVariants.{Null, Int}
use Rattle.sqlite_value.specs.declared.keys.Collation.TheVariants.{Binary}
use Rattle.sqlite_value.specs.declared.keys.Key.{Key}
use Rattle.sqlite_sql.specs.Term.{Term, lit, col, op2}
use Rattle.sqlite_sql.specs.Query.{Query, inner, end}
use Rattle.sqlite_sql.specs.declared.ops.BinaryOp.TheVariants.{Compare}
use Rattle.sqlite_sql.specs.declared.ops.CompareOp.TheVariants.{Eq}
use Rattle.sqlite_ast.specs.declared.Statement.{Statement}
use Rattle.sqlite_ast.specs.declared.Statement.TheVariants as written
use Rattle.sqlite_syntax.specs.declared.statement.Parsed.{Parsed}
use Rattle.sqlite_schema.specs.declared.schema.Schema.{Schema}
use Rattle.sqlite_schema.specs.declared.program.Program.{Program}
use Rattle.sqlite_schema.specs.declared.command.Command.TheVariants.{Select}
use Rattle.sqlite_schema.specs.Names.{column_named}
use Rattle.sqlite_draft.specs.declared.query.Draft.{Draft}
use Rattle.sqlite_resolve.specs.Lowering.{Checked}
use Rattle.sqlite_resolve.specs.Program.{program}
use Rattle.sqlite_resolve.specs.Compile.{first, table_defined_by}
use Rattle.sqlite_typing.specs.Types.{table_classes, row_classes}
use Rattle.sqlite_tied.specs.Compute.{everything}
use Rattle.hosts_sql.specs.Tables.{own_name, hosts_name, watches_name, first_hosts_name, own_text, hosts_text, watches_text, own_table, hosts_table, watches_table, first_hosts_table, own_checks, monitor_text, watch_text, delete_host_text, delete_watch_text, delete_watches_text, set_own_text, second_own_text, empty_hosts_text, read_own_text, read_hosts_text, read_first_hosts_text, read_watches_text}
use Rattle.hosts_sql.proofs.Selects.{Named}
use Rattle.hosts_sql.proofs.Means.{Is, ReadsAll, ReadsNumbered, read_means, reads_all, reads_numbered}
use Rattle.hosts_sql.proofs.Places.{Has, low_tree, classes_are}

pub hosts_is : table_defined_by hosts_text ≡ Ok (hosts_table 0)
unfolding everything
hosts_is = refl

pub watches_is : table_defined_by watches_text ≡ Ok (watches_table 0)
unfolding everything
watches_is = refl

pub own_is : table_defined_by own_text ≡ Ok (own_table 0 own_checks)
unfolding everything
own_is = refl

-- ---- a text as it is parsed

abbrev nothing : Parsed
nothing = record { statement = written.Empty; names = []; formats = []; start = 0; end = 0; tail = 0 }

abbrev pub parse_of : Checked Parsed → Parsed
parse_of (Ok p) = p
parse_of (Err e) = nothing

-- ---- queries over one table

-- the rows of a table that pass, with what is shown of them
abbrev pub query : ℕ → List Term → List Term → List (Term × Key) → Query
query tree filter terms order = record {
  from = inner tree end;
  filter = filter;
  group = None;
  project = terms;
  distinct = false;
  collations = [];
  order = order;
  limit = lit (Int (negsuc 0));
  offset = lit (Int (pos 0));
}

abbrev pub draft : ℕ → List Term → List Term → List (Term × Key) → Draft
draft tree filter terms order = record {
  from = inner tree end;
  filter = filter;
  group = None;
  project = terms;
  distinct = false;
  collations = [];
  order = order;
  limit = lit (Int (negsuc 0));
  offset = lit (Int (pos 0));
}

abbrev pub alone : Query → Program
alone q = record { lets = []; body = q }

-- ORDER BY the first column
abbrev pub by_rowid : List (Term × Key)
by_rowid = (col 1 0, record { collation = Binary; descending = false }) ∷ []

abbrev pub own_terms : List Term
own_terms = col 1 0 ∷ col 1 2 ∷ col 1 3 ∷ []

abbrev pub hosts_terms : List Term
hosts_terms = col 1 0 ∷ col 1 1 ∷ col 1 2 ∷ col 1 3 ∷ col 1 4 ∷ []

abbrev pub first_hosts_terms : List Term
first_hosts_terms = col 1 0 ∷ col 1 1 ∷ col 1 2 ∷ col 1 3 ∷ lit (Int (pos 65536)) ∷ []

abbrev pub watches_terms : List Term
watches_terms = col 1 0 ∷ col 1 1 ∷ col 1 2 ∷ col 1 3 ∷ col 1 4 ∷ col 1 5 ∷ col 1 6 ∷ []

-- a column is a parameter
abbrev pub is_given : ℕ → ℕ → Term
is_given place param = op2 (Compare Eq Binary) (col 1 place) (col 0 param)

abbrev pub host_tests : List Term
host_tests = is_given 1 0 ∷ []

abbrev pub watch_tests : List Term
watch_tests = is_given 1 0 ∷ is_given 2 1 ∷ is_given 3 2 ∷ is_given 4 3 ∷ is_given 5 4 ∷ []

abbrev pub watches_tests : List Term
watches_tests = is_given 2 0 ∷ is_given 3 1 ∷ is_given 4 2 ∷ is_given 5 3 ∷ []

-- a row of the own state with a new state, and one with a new version, too
abbrev pub state_terms : List Term
state_terms = col 1 0 ∷ col 1 0 ∷ lit Null ∷ col 1 2 ∷ col 0 0 ∷ []

abbrev pub version_terms : List Term
version_terms = col 1 0 ∷ col 1 0 ∷ lit Null ∷ lit (Int (pos 2)) ∷ col 0 0 ∷ []

-- ---- their types

pub own_typed : (schema : Schema) (tree : ℕ) (checks : List Term) → table_classes schema [] tree ≡ Some (row_classes (own_table tree checks)) → program schema [] (draft tree [] own_terms []) ≡ Ok (alone (query tree [] own_terms []))
unfolding program
own_typed schema tree checks classes = rw classes

pub state_typed : (schema : Schema) (tree : ℕ) (checks : List Term) → table_classes schema [] tree ≡ Some (row_classes (own_table tree checks)) → program schema [] (draft tree [] state_terms []) ≡ Ok (alone (query tree [] state_terms []))
unfolding program
state_typed schema tree checks classes = rw classes

pub version_typed : (schema : Schema) (tree : ℕ) (checks : List Term) → table_classes schema [] tree ≡ Some (row_classes (own_table tree checks)) → program schema [] (draft tree [] version_terms []) ≡ Ok (alone (query tree [] version_terms []))
unfolding program
version_typed schema tree checks classes = rw classes

pub hosts_typed : (schema : Schema) (tree : ℕ) → table_classes schema [] tree ≡ Some (row_classes (hosts_table tree)) → program schema [] (draft tree [] hosts_terms by_rowid) ≡ Ok (alone (query tree [] hosts_terms by_rowid))
unfolding program
hosts_typed schema tree classes = rw classes

pub host_typed : (schema : Schema) (tree : ℕ) → table_classes schema [] tree ≡ Some (row_classes (hosts_table tree)) → program schema [] (draft tree host_tests (col 1 0 ∷ []) []) ≡ Ok (alone (query tree host_tests (col 1 0 ∷ []) []))
unfolding program
host_typed schema tree classes = rw classes

pub first_typed : (schema : Schema) (tree : ℕ) → table_classes schema [] tree ≡ Some (row_classes (first_hosts_table tree)) → program schema [] (draft tree [] first_hosts_terms by_rowid) ≡ Ok (alone (query tree [] first_hosts_terms by_rowid))
unfolding program
first_typed schema tree classes = rw classes

pub empty_typed : (schema : Schema) (tree : ℕ) → table_classes schema [] tree ≡ Some (row_classes (first_hosts_table tree)) → program schema [] (draft tree [] (col 1 0 ∷ []) []) ≡ Ok (alone (query tree [] (col 1 0 ∷ []) []))
unfolding program
empty_typed schema tree classes = rw classes

pub watches_typed : (schema : Schema) (tree : ℕ) → table_classes schema [] tree ≡ Some (row_classes (watches_table tree)) → program schema [] (draft tree [] watches_terms by_rowid) ≡ Ok (alone (query tree [] watches_terms by_rowid))
unfolding program
watches_typed schema tree classes = rw classes

pub watch_typed : (schema : Schema) (tree : ℕ) → table_classes schema [] tree ≡ Some (row_classes (watches_table tree)) → program schema [] (draft tree watch_tests (col 1 0 ∷ []) []) ≡ Ok (alone (query tree watch_tests (col 1 0 ∷ []) []))
unfolding program
watch_typed schema tree classes = rw classes

pub watcher_typed : (schema : Schema) (tree : ℕ) → table_classes schema [] tree ≡ Some (row_classes (watches_table tree)) → program schema [] (draft tree watches_tests (col 1 0 ∷ []) []) ≡ Ok (alone (query tree watches_tests (col 1 0 ∷ []) []))
unfolding program
watcher_typed schema tree classes = rw classes

-- ---- the texts, parsed

abbrev pub IsParsed : List ℕ → Type 0
IsParsed sql = (first sql ≡ Ok (parse_of (first sql))) × ((parse_of (first sql)).formats ≡ [])

abbrev pub statement_of : List ℕ → Statement
statement_of sql = (parse_of (first sql)).statement

pub read_own_parsed : IsParsed read_own_text
unfolding everything
read_own_parsed = (refl, refl)

pub read_hosts_parsed : IsParsed read_hosts_text
unfolding everything
read_hosts_parsed = (refl, refl)

pub read_first_hosts_parsed : IsParsed read_first_hosts_text
unfolding everything
read_first_hosts_parsed = (refl, refl)

pub read_watches_parsed : IsParsed read_watches_text
unfolding everything
read_watches_parsed = (refl, refl)

pub set_own_parsed : IsParsed set_own_text
unfolding everything
set_own_parsed = (refl, refl)

pub second_own_parsed : IsParsed second_own_text
unfolding everything
second_own_parsed = (refl, refl)

pub monitor_parsed : IsParsed monitor_text
unfolding everything
monitor_parsed = (refl, refl)

pub watch_parsed : IsParsed watch_text
unfolding everything
watch_parsed = (refl, refl)

pub delete_host_parsed : IsParsed delete_host_text
unfolding everything
delete_host_parsed = (refl, refl)

pub delete_watch_parsed : IsParsed delete_watch_text
unfolding everything
delete_watch_parsed = (refl, refl)

pub delete_watches_parsed : IsParsed delete_watches_text
unfolding everything
delete_watches_parsed = (refl, refl)

pub empty_hosts_parsed : IsParsed empty_hosts_text
unfolding everything
empty_hosts_parsed = (refl, refl)

-- ---- what is read

abbrev pub own_named : ℕ → Named
own_named tree = (draft tree [] own_terms [], (codes "id" ∷ codes "version" ∷ codes "state" ∷ []), (None ∷ Some Binary ∷ Some Binary ∷ []))

abbrev pub hosts_named : ℕ → Named
hosts_named tree = (draft tree [] hosts_terms by_rowid, (codes "id" ∷ codes "name" ∷ codes "epoch" ∷ codes "seen" ∷ codes "quota" ∷ []), (None ∷ Some Binary ∷ Some Binary ∷ Some Binary ∷ Some Binary ∷ []))

abbrev pub first_named : ℕ → Named
first_named tree = (draft tree [] first_hosts_terms by_rowid, (codes "id" ∷ codes "name" ∷ codes "epoch" ∷ codes "seen" ∷ codes "65536" ∷ []), (None ∷ Some Binary ∷ Some Binary ∷ Some Binary ∷ None ∷ []))

abbrev pub watches_named : ℕ → Named
watches_named tree =
    (draft tree [] watches_terms by_rowid, (codes "id" ∷ codes "mon" ∷ codes "my" ∷ codes "prog" ∷ codes "vers" ∷ codes "proc" ∷ codes "priv" ∷ []), (None ∷ Some Binary ∷ Some Binary ∷ Some Binary ∷ Some Binary ∷ Some Binary ∷ Some Binary ∷ []))

own_shown : (schema : Schema) (at tree : ℕ) (checks : List Term) → ReadsAll schema own_name at (own_table tree checks) (own_named tree) (statement_of read_own_text)
unfolding everything
own_shown schema at tree checks = (refl, refl, refl, (refl, refl, refl))

hosts_shown : (schema : Schema) (at tree : ℕ) → ReadsNumbered schema hosts_name at (hosts_table tree) (hosts_named tree) (statement_of read_hosts_text)
unfolding everything
hosts_shown schema at tree = (refl, refl, refl, (refl, (refl, refl, refl)))

first_shown : (schema : Schema) (at tree : ℕ) → ReadsNumbered schema first_hosts_name at (first_hosts_table tree) (first_named tree) (statement_of read_first_hosts_text)
unfolding everything
first_shown schema at tree = (refl, refl, refl, (refl, (refl, refl, refl)))

watches_shown : (schema : Schema) (at tree : ℕ) → ReadsNumbered schema watches_name at (watches_table tree) (watches_named tree) (statement_of read_watches_text)
unfolding everything
watches_shown schema at tree = (refl, refl, refl, (refl, (refl, refl, refl)))

no_rowid_hosts : column_named (hosts_table 0) (codes "rowid") ≡ None
unfolding everything
no_rowid_hosts = refl

no_rowid_first : column_named (first_hosts_table 0) (codes "rowid") ≡ None
unfolding everything
no_rowid_first = refl

no_rowid_watches : column_named (watches_table 0) (codes "rowid") ≡ None
unfolding everything
no_rowid_watches = refl

pub read_own_is : (schema : Schema) (tree : ℕ) (checks : List Term) → Has schema (own_table tree checks) → Is schema read_own_text (Select (alone (query tree [] own_terms [])) (own_named tree).1)
read_own_is schema tree checks h =
    let t = own_table tree checks in
    let read = reads_all schema own_name h.at t h.named h.got (own_named tree) (alone (query tree [] own_terms [])) (statement_of read_own_text) (own_typed schema tree checks (classes_are schema t h)) (own_shown schema h.at tree checks) in
    read_means schema own_name h.at t h.named h.got (own_named tree) (alone (query tree [] own_terms [])) read_own_text (parse_of (first read_own_text)) read_own_parsed.0 read_own_parsed.1 read

pub read_hosts_is : (schema : Schema) (tree : ℕ) → Has schema (hosts_table tree) → Is schema read_hosts_text (Select (alone (query tree [] hosts_terms by_rowid)) (hosts_named tree).1)
read_hosts_is schema tree h =
    let t = hosts_table tree in
    let read = reads_numbered schema hosts_name h.at t h.named h.got (hosts_named tree) (alone (query tree [] hosts_terms by_rowid)) (statement_of read_hosts_text) (hosts_typed schema tree (classes_are schema t h)) no_rowid_hosts (low_tree schema t h) (hosts_shown schema h.at tree) in
    read_means schema hosts_name h.at t h.named h.got (hosts_named tree) (alone (query tree [] hosts_terms by_rowid)) read_hosts_text (parse_of (first read_hosts_text)) read_hosts_parsed.0 read_hosts_parsed.1 read

pub read_first_hosts_is : (schema : Schema) (tree : ℕ) → Has schema (first_hosts_table tree) → Is schema read_first_hosts_text (Select (alone (query tree [] first_hosts_terms by_rowid)) (first_named tree).1)
read_first_hosts_is schema tree h =
    let t = first_hosts_table tree in
    let read = reads_numbered schema first_hosts_name h.at t h.named h.got (first_named tree) (alone (query tree [] first_hosts_terms by_rowid)) (statement_of read_first_hosts_text) (first_typed schema tree (classes_are schema t h)) no_rowid_first (low_tree schema t h) (first_shown schema h.at tree) in
    read_means schema first_hosts_name h.at t h.named h.got (first_named tree) (alone (query tree [] first_hosts_terms by_rowid)) read_first_hosts_text (parse_of (first read_first_hosts_text)) read_first_hosts_parsed.0 read_first_hosts_parsed.1 read

pub read_watches_is : (schema : Schema) (tree : ℕ) → Has schema (watches_table tree) → Is schema read_watches_text (Select (alone (query tree [] watches_terms by_rowid)) (watches_named tree).1)
read_watches_is schema tree h =
    let t = watches_table tree in
    let read = reads_numbered schema watches_name h.at t h.named h.got (watches_named tree) (alone (query tree [] watches_terms by_rowid)) (statement_of read_watches_text) (watches_typed schema tree (classes_are schema t h)) no_rowid_watches (low_tree schema t h) (watches_shown schema h.at tree) in
    read_means schema watches_name h.at t h.named h.got (watches_named tree) (alone (query tree [] watches_terms by_rowid)) read_watches_text (parse_of (first read_watches_text)) read_watches_parsed.0 read_watches_parsed.1 read
