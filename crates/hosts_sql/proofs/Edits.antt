-- What the texts that write mean, in any schema that has their tables.
use Rattle.std.proofs.Common.{◌≡◌, ℕ, slice_get, Some, None, Option, Ok, List, [], ◌∷◌, ◌++◌, refl, ap}
use Rattle.sqlite_value.specs.declared.value.Value.TheVariants.{Null}
use Rattle.sqlite_sql.specs.Term.{Term, lit, col}
use Rattle.sqlite_ast.specs.declared.Expr.{Expr}
use Rattle.sqlite_ast.specs.declared.Statement.{Statement}
use Rattle.sqlite_ast.specs.declared.Statement.TheVariants as written
use Rattle.sqlite_schema.specs.declared.schema.Schema.{Schema}
use Rattle.sqlite_schema.specs.declared.command.Source.TheVariants as source
use Rattle.sqlite_schema.specs.declared.command.Command.TheVariants.{Insert, Update, Delete}
use Rattle.sqlite_resolve.specs.Compile.{first}
use Rattle.sqlite_tied.specs.Compute.{everything}
use Rattle.hosts_sql.specs.Tables.{own_name, hosts_name, watches_name, first_hosts_name, own_table, hosts_table, watches_table, first_hosts_table, monitor_text, watch_text, delete_host_text, delete_watch_text, delete_watches_text, set_own_text, second_own_text, empty_hosts_text}
use Rattle.hosts_sql.proofs.Conditions.{watcher_test, watch_test}
use Rattle.hosts_sql.proofs.Means.{Is, Inserts, Deletes, Updates, inserts_mean, deletes_mean, updates_mean}
use Rattle.hosts_sql.proofs.Places.{Has, classes_are}
use Rattle.hosts_sql.proofs.Texts.{parse_of, statement_of, query, draft, alone, host_tests, watch_tests, watches_tests, state_terms, version_terms, host_typed, watch_typed, watcher_typed, empty_typed, state_typed, version_typed, monitor_parsed, watch_parsed, delete_host_parsed, delete_watch_parsed, delete_watches_parsed, set_own_parsed, second_own_parsed, empty_hosts_parsed}

abbrev pub monitor_terms : List Term
monitor_terms = lit Null ∷ col 0 0 ∷ col 0 1 ∷ col 0 2 ∷ col 0 3 ∷ []

abbrev pub watch_terms : List Term
watch_terms = lit Null ∷ col 0 0 ∷ col 0 1 ∷ col 0 2 ∷ col 0 3 ∷ col 0 4 ∷ col 0 5 ∷ []

-- the condition of a DELETE
abbrev pub test_of : Statement → Option Expr
test_of (written.Delete name test shown) = test
test_of _ = None

module _ (schema : Schema) (at tree : ℕ) where
  host_inserts : (parsed : first monitor_text ≡ Ok (parse_of (first monitor_text))) (found : _) (got : slice_get schema.tables at ≡ Some (hosts_table tree)) → Inserts schema monitor_text (parse_of (first monitor_text)) hosts_name at (hosts_table tree) parsed found got (source.Values monitor_terms 5) (statement_of monitor_text)
  unfolding everything
  host_inserts parsed found got = (refl, refl)

  watch_inserts : (parsed : first watch_text ≡ Ok (parse_of (first watch_text))) (found : _) (got : slice_get schema.tables at ≡ Some (watches_table tree)) → Inserts schema watch_text (parse_of (first watch_text)) watches_name at (watches_table tree) parsed found got (source.Values watch_terms 7) (statement_of watch_text)
  unfolding everything
  watch_inserts parsed found got = (refl, refl)

  host_deletes : (parsed : first delete_host_text ≡ Ok (parse_of (first delete_host_text))) (found : _) (got : slice_get schema.tables at ≡ Some (hosts_table tree)) → Deletes schema delete_host_text (parse_of (first delete_host_text)) hosts_name at (hosts_table tree) parsed found got (draft tree host_tests (col 1 0 ∷ []) []) (statement_of delete_host_text)
  unfolding everything
  host_deletes parsed found got = (refl, rw (got, got, got))

  all_deleted : (parsed : first empty_hosts_text ≡ Ok (parse_of (first empty_hosts_text))) (found : _) (got : slice_get schema.tables at ≡ Some (first_hosts_table tree)) → Deletes schema empty_hosts_text (parse_of (first empty_hosts_text)) first_hosts_name at (first_hosts_table tree) parsed found got (draft tree [] (col 1 0 ∷ []) []) (statement_of empty_hosts_text)
  unfolding everything
  all_deleted parsed found got = (refl, refl)

  watcher_deletes : (parsed : first delete_watches_text ≡ Ok (parse_of (first delete_watches_text))) (found : _) (got : slice_get schema.tables at ≡ Some (watches_table tree)) → Deletes schema delete_watches_text (parse_of (first delete_watches_text)) watches_name at (watches_table tree) parsed found got (draft tree watches_tests (col 1 0 ∷ []) []) (statement_of delete_watches_text)
  unfolding everything
  watcher_deletes parsed found got = (refl, watcher_test schema at tree got (test_of (statement_of delete_watches_text)) (((((refl, refl), (refl, refl)), (refl, refl)), (refl, refl))))

  watch_deletes : (parsed : first delete_watch_text ≡ Ok (parse_of (first delete_watch_text))) (found : _) (got : slice_get schema.tables at ≡ Some (watches_table tree)) → Deletes schema delete_watch_text (parse_of (first delete_watch_text)) watches_name at (watches_table tree) parsed found got (draft tree watch_tests (col 1 0 ∷ []) []) (statement_of delete_watch_text)
  unfolding everything
  watch_deletes parsed found got = (refl, watch_test schema at tree got (test_of (statement_of delete_watch_text)) ((((((refl, refl), (refl, refl)), (refl, refl)), (refl, refl)), (refl, refl))))

  state_updates : (checks : List Term) (parsed : first set_own_text ≡ Ok (parse_of (first set_own_text))) (found : _) (got : slice_get schema.tables at ≡ Some (own_table tree checks)) → Updates schema set_own_text (parse_of (first set_own_text)) own_name at (own_table tree checks) parsed found got (draft tree [] state_terms []) (statement_of set_own_text)
  unfolding everything
  state_updates checks parsed found got = (refl, refl)

  version_updates : (checks : List Term) (parsed : first second_own_text ≡ Ok (parse_of (first second_own_text))) (found : _) (got : slice_get schema.tables at ≡ Some (own_table tree checks)) → Updates schema second_own_text (parse_of (first second_own_text)) own_name at (own_table tree checks) parsed found got (draft tree [] version_terms []) (statement_of second_own_text)
  unfolding everything
  version_updates checks parsed found got = (refl, refl)

-- ---- the commands

abbrev pub rowids : List Term
rowids = col 1 0 ∷ []

module _ (schema : Schema) (tree : ℕ) where
  pub monitor_is : Has schema (hosts_table tree) → (at : ℕ) × (slice_get schema.tables at ≡ Some (hosts_table tree)) × Is schema monitor_text (Insert at (source.Values monitor_terms 5))
  monitor_is h =
      (h.at, h.got, inserts_mean schema monitor_text (parse_of (first monitor_text)) hosts_name h.at (hosts_table tree) monitor_parsed.0 h.named h.got (source.Values monitor_terms 5) (statement_of monitor_text) refl (ap (λ fs. fs ++ []) monitor_parsed.1) (host_inserts schema h.at tree monitor_parsed.0 h.named h.got))

  pub watch_is : Has schema (watches_table tree) → (at : ℕ) × (slice_get schema.tables at ≡ Some (watches_table tree)) × Is schema watch_text (Insert at (source.Values watch_terms 7))
  watch_is h =
      (h.at, h.got, inserts_mean schema watch_text (parse_of (first watch_text)) watches_name h.at (watches_table tree) watch_parsed.0 h.named h.got (source.Values watch_terms 7) (statement_of watch_text) refl (ap (λ fs. fs ++ []) watch_parsed.1) (watch_inserts schema h.at tree watch_parsed.0 h.named h.got))

  pub delete_host_is : Has schema (hosts_table tree) → (at : ℕ) × (slice_get schema.tables at ≡ Some (hosts_table tree)) × Is schema delete_host_text (Delete at (alone (query tree host_tests rowids [])))
  delete_host_is h =
      (h.at, h.got, deletes_mean schema delete_host_text (parse_of (first delete_host_text)) hosts_name h.at (hosts_table tree) delete_host_parsed.0 h.named h.got (draft tree host_tests rowids []) (alone (query tree host_tests rowids [])) (statement_of delete_host_text) refl delete_host_parsed.1 (host_typed schema tree (classes_are schema (hosts_table tree) h)) (host_deletes schema h.at tree delete_host_parsed.0 h.named h.got))

  pub delete_watch_is : Has schema (watches_table tree) → (at : ℕ) × (slice_get schema.tables at ≡ Some (watches_table tree)) × Is schema delete_watch_text (Delete at (alone (query tree watch_tests rowids [])))
  delete_watch_is h =
      (h.at, h.got, deletes_mean schema delete_watch_text (parse_of (first delete_watch_text)) watches_name h.at (watches_table tree) delete_watch_parsed.0 h.named h.got (draft tree watch_tests rowids []) (alone (query tree watch_tests rowids [])) (statement_of delete_watch_text) refl delete_watch_parsed.1 (watch_typed schema tree (classes_are schema (watches_table tree) h)) (watch_deletes schema h.at tree delete_watch_parsed.0 h.named h.got))

  pub delete_watches_is : Has schema (watches_table tree) → (at : ℕ) × (slice_get schema.tables at ≡ Some (watches_table tree)) × Is schema delete_watches_text (Delete at (alone (query tree watches_tests rowids [])))
  delete_watches_is h =
      (h.at, h.got, deletes_mean schema delete_watches_text (parse_of (first delete_watches_text)) watches_name h.at (watches_table tree) delete_watches_parsed.0 h.named h.got (draft tree watches_tests rowids []) (alone (query tree watches_tests rowids [])) (statement_of delete_watches_text) refl delete_watches_parsed.1 (watcher_typed schema tree (classes_are schema (watches_table tree) h)) (watcher_deletes schema h.at tree delete_watches_parsed.0 h.named h.got))

  pub empty_is : Has schema (first_hosts_table tree) → (at : ℕ) × (slice_get schema.tables at ≡ Some (first_hosts_table tree)) × Is schema empty_hosts_text (Delete at (alone (query tree [] rowids [])))
  empty_is h =
      (h.at, h.got, deletes_mean schema empty_hosts_text (parse_of (first empty_hosts_text)) first_hosts_name h.at (first_hosts_table tree) empty_hosts_parsed.0 h.named h.got (draft tree [] rowids []) (alone (query tree [] rowids [])) (statement_of empty_hosts_text) refl empty_hosts_parsed.1 (empty_typed schema tree (classes_are schema (first_hosts_table tree) h)) (all_deleted schema h.at tree empty_hosts_parsed.0 h.named h.got))

  pub set_own_is : (checks : List Term) → Has schema (own_table tree checks) → (at : ℕ) × (slice_get schema.tables at ≡ Some (own_table tree checks)) × Is schema set_own_text (Update at (alone (query tree [] state_terms [])))
  set_own_is checks h =
      (h.at, h.got, updates_mean schema set_own_text (parse_of (first set_own_text)) own_name h.at (own_table tree checks) set_own_parsed.0 h.named h.got (draft tree [] state_terms []) (alone (query tree [] state_terms [])) (statement_of set_own_text) refl set_own_parsed.1 (state_typed schema tree checks (classes_are schema (own_table tree checks) h)) (state_updates schema h.at tree checks set_own_parsed.0 h.named h.got))

  pub second_own_is : (checks : List Term) → Has schema (own_table tree checks) → (at : ℕ) × (slice_get schema.tables at ≡ Some (own_table tree checks)) × Is schema second_own_text (Update at (alone (query tree [] version_terms [])))
  second_own_is checks h =
      (h.at, h.got, updates_mean schema second_own_text (parse_of (first second_own_text)) own_name h.at (own_table tree checks) second_own_parsed.0 h.named h.got (draft tree [] version_terms []) (alone (query tree [] version_terms [])) (statement_of second_own_text) refl second_own_parsed.1 (version_typed schema tree checks (classes_are schema (own_table tree checks) h)) (version_updates schema h.at tree checks second_own_parsed.0 h.named h.got))
