-- What the texts on addresses mean, in any schema that has their table.
use Rattle.std.proofs.Common.{◌≡◌, ℕ, false, codes, slice_get, Some, None, Ok, List, [], ◌∷◌, ◌++◌, refl, ap}
use Rattle.sqlite_value.specs.declared.value.Value.TheVariants.{Null}
use Rattle.sqlite_value.specs.declared.keys.Collation.TheVariants.{Binary}
use Rattle.sqlite_sql.specs.Term.{Term, lit, col}
use Rattle.sqlite_schema.specs.declared.schema.Schema.{Schema}
use Rattle.sqlite_schema.specs.declared.command.Source.TheVariants as source
use Rattle.sqlite_schema.specs.declared.command.Command.TheVariants.{Insert, Delete, Select, CreateTable}
use Rattle.sqlite_schema.specs.Names.{column_named, table_named, index_named}
use Rattle.sqlite_resolve.specs.Program.{program}
use Rattle.sqlite_resolve.specs.Compile.{first, compiled, is_reserved, table_defined_by, with_command}
use Rattle.sqlite_typing.specs.Types.{table_classes, row_classes}
use Rattle.sqlite_tied.specs.Compute.{everything}
use Rattle.sqlite.specs.Listing.{understood}
use Rattle.sqlite.specs.State.{text_of}
use Rattle.hosts_sql.specs.Making.{text_in}
use Rattle.hosts_sql.specs.Tables.{addresses_name, addresses_text, addresses_table, insert_address_text, delete_address_text, read_addresses_text}
use Rattle.hosts_sql.proofs.Selects.{Named}
use Rattle.hosts_sql.proofs.Means.{Is, Inserts, Deletes, ReadsNumbered, inserts_mean, deletes_mean, read_means, reads_numbered, compiled_is}
use Rattle.hosts_sql.proofs.Meant.{MakesNamed, creates_mean}
use Rattle.hosts_sql.proofs.Places.{Has, classes_are, low_tree}
use Rattle.hosts_sql.proofs.Texts.{parse_of, statement_of, IsParsed, query, draft, alone, by_rowid, host_tests}
use Rattle.hosts_sql.proofs.Edits.{rowids}

-- ---- the texts, parsed

pub addresses_is : table_defined_by addresses_text ≡ Ok (addresses_table 0)
unfolding everything
addresses_is = refl

insert_parsed : IsParsed insert_address_text
unfolding everything
insert_parsed = (refl, refl)

delete_parsed : IsParsed delete_address_text
unfolding everything
delete_parsed = (refl, refl)

read_parsed : IsParsed read_addresses_text
unfolding everything
read_parsed = (refl, refl)

-- ---- what they write and read

abbrev pub address_terms : List Term
address_terms = lit Null ∷ col 0 0 ∷ col 0 1 ∷ []

abbrev pub addresses_terms : List Term
addresses_terms = col 1 0 ∷ col 1 1 ∷ col 1 2 ∷ []

abbrev pub addresses_named : ℕ → Named
addresses_named tree = (draft tree [] addresses_terms by_rowid, (codes "id" ∷ codes "name" ∷ codes "address" ∷ []), (None ∷ Some Binary ∷ Some Binary ∷ []))

delete_typed : (schema : Schema) (tree : ℕ) → table_classes schema [] tree ≡ Some (row_classes (addresses_table tree)) → program schema [] (draft tree host_tests rowids []) ≡ Ok (alone (query tree host_tests rowids []))
unfolding program
delete_typed schema tree classes = rw classes

read_typed : (schema : Schema) (tree : ℕ) → table_classes schema [] tree ≡ Some (row_classes (addresses_table tree)) → program schema [] (draft tree [] addresses_terms by_rowid) ≡ Ok (alone (query tree [] addresses_terms by_rowid))
unfolding program
read_typed schema tree classes = rw classes

no_rowid : column_named (addresses_table 0) (codes "rowid") ≡ None
unfolding everything
no_rowid = refl

module _ (schema : Schema) (at tree : ℕ) where
  address_inserts : (parsed : first insert_address_text ≡ Ok (parse_of (first insert_address_text))) (found : _) (got : slice_get schema.tables at ≡ Some (addresses_table tree)) → Inserts schema insert_address_text (parse_of (first insert_address_text)) addresses_name at (addresses_table tree) parsed found got (source.Values address_terms 3) (statement_of insert_address_text)
  unfolding everything
  address_inserts parsed found got = (refl, refl)

  address_deletes : (parsed : first delete_address_text ≡ Ok (parse_of (first delete_address_text))) (found : _) (got : slice_get schema.tables at ≡ Some (addresses_table tree)) → Deletes schema delete_address_text (parse_of (first delete_address_text)) addresses_name at (addresses_table tree) parsed found got (draft tree host_tests rowids []) (statement_of delete_address_text)
  unfolding everything
  address_deletes parsed found got = (refl, rw (got, got, got))

  addresses_shown : ReadsNumbered schema addresses_name at (addresses_table tree) (addresses_named tree) (statement_of read_addresses_text)
  unfolding everything
  addresses_shown = (refl, refl, refl, (refl, (refl, refl, refl)))

-- ---- the commands

module _ (schema : Schema) (tree : ℕ) (h : Has schema (addresses_table tree)) where
  pub insert_address_is : Is schema insert_address_text (Insert h.at (source.Values address_terms 3))
  insert_address_is =
      inserts_mean schema insert_address_text (parse_of (first insert_address_text)) addresses_name h.at (addresses_table tree) insert_parsed.0 h.named h.got (source.Values address_terms 3) (statement_of insert_address_text) refl (ap (λ fs. fs ++ []) insert_parsed.1)
      (address_inserts schema h.at tree insert_parsed.0 h.named h.got)

  pub delete_address_is : Is schema delete_address_text (Delete h.at (alone (query tree host_tests rowids [])))
  delete_address_is =
      deletes_mean schema delete_address_text (parse_of (first delete_address_text)) addresses_name h.at (addresses_table tree) delete_parsed.0 h.named h.got (draft tree host_tests rowids []) (alone (query tree host_tests rowids [])) (statement_of delete_address_text) refl
      delete_parsed.1 (delete_typed schema tree (classes_are schema (addresses_table tree) h)) (address_deletes schema h.at tree delete_parsed.0 h.named h.got)

  pub read_addresses_is : Is schema read_addresses_text (Select (alone (query tree [] addresses_terms by_rowid)) (addresses_named tree).1)
  read_addresses_is =
      let t = addresses_table tree in
      let read = reads_numbered schema addresses_name h.at t h.named h.got (addresses_named tree) (alone (query tree [] addresses_terms by_rowid)) (statement_of read_addresses_text) (read_typed schema tree (classes_are schema t h)) no_rowid (low_tree schema t h) (addresses_shown schema h.at tree) in
      read_means schema addresses_name h.at t h.named h.got (addresses_named tree) (alone (query tree [] addresses_terms by_rowid)) read_addresses_text (parse_of (first read_addresses_text)) read_parsed.0 read_parsed.1 read

-- ---- the new table

addresses_made : MakesNamed addresses_name (parse_of (first addresses_text)) (addresses_table 0) (statement_of addresses_text)
unfolding everything
addresses_made = (refl, refl, refl)

addresses_parsed : first addresses_text ≡ Ok (parse_of (first addresses_text))
unfolding everything
addresses_parsed = refl

addresses_whole : text_of addresses_text (with_command (parse_of (first addresses_text)) ([], (CreateTable, None))) ≡ addresses_text
unfolding everything
addresses_whole = refl

unreserved : is_reserved addresses_name ≡ false
unfolding everything
unreserved = refl

module _ (schema : Schema) (views : schema.views ≡ []) (untaken : table_named schema addresses_name ≡ None) (unindexed : index_named schema addresses_name ≡ None) where
  addresses_defined : compiled schema addresses_text ≡ Ok (with_command (parse_of (first addresses_text)) ([], (CreateTable, None)))
  addresses_defined = creates_mean schema addresses_name views unreserved untaken unindexed addresses_text (parse_of (first addresses_text)) (addresses_table 0) (statement_of addresses_text) addresses_parsed refl addresses_made

  pub addresses_command : Is schema addresses_text CreateTable
  addresses_command = compiled_is schema addresses_text (with_command (parse_of (first addresses_text)) ([], (CreateTable, None))) addresses_defined (refl, refl)

  pub addresses_statement : text_in addresses_text (understood schema addresses_text) ≡ addresses_text
  unfolding understood
  addresses_statement = rw addresses_defined addresses_whole
