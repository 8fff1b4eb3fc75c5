-- What setting the own state does, where its table has one row.
use Rattle.std.proofs.Common.{◌≡◌, ◌≢◌, ℕ, pos, List, [], ◌∷◌, map, None, Some, Option, slice_get, Ok, refl, sym, ap, subst, ◌∙◌}
use Rattle.std.specs.declared.cmp.Ordering.TheVariants.{Equal}
use Rattle.std.specs.List.Sorted.{IsPermutation}
use Rattle.sqlite_value.specs.declared.value.Value.TheVariants.{Null, Int}
use Rattle.sqlite_value.specs.Order.{Row, column, value_cmp}
use Rattle.sqlite_sql.specs.Term.{Term}
use Rattle.sqlite_sql.specs.Query.{Query, IsAnswer, output, page, Output}
use Rattle.sqlite_sql.specs.Program.{overlay}
use Rattle.sqlite_schema.specs.declared.schema.Keys.{Keys}
use Rattle.sqlite_schema.specs.declared.command.Command.TheVariants.{Update}
use Rattle.sqlite_trees.specs.Tree.{Trees}
use Rattle.sqlite_trees.specs.Objects.{catalog_tree}
use Rattle.sqlite_rules.specs.Edit.{Edit, edit_of, edited, Applies}
use Rattle.sqlite_rules.specs.Calls.{ids_of}
use Rattle.sqlite_rules.specs.declared.error.Rowids.TheVariants.{Given}
use Rattle.sqlite.specs.declared.run.Mode.{Mode}
use Rattle.sqlite.specs.Does.{Tally, Does}
use Rattle.sqlite.specs.Rows.{Written}
use Rattle.sqlite.specs.Effect.{Database, IsDatabase}
use Rattle.std.specs.FinMap.{from_entries}
use Rattle.sqlite.proofs.Callers.{one_permutation}
use Rattle.hosts_sql.specs.Own.{is_host, is_watched, AreOwn}
use Rattle.hosts_sql.specs.Maps.{with_own}
use Rattle.hosts_sql.specs.Shown.{host_of, watch_of, number_at}
use Rattle.sql_transactions.specs.Work.{Ran}
use Rattle.hosts_sql.specs.Wrote.{own_row_at, own_shown, HasOwnRow, IsWhole}
use Rattle.hosts_sql.specs.declared.tables.TablesVersion.TheVariants.{Second}
use Rattle.sqlite_catalog.specs.Listing.{IsSound}
use Rattle.sqlite_schema.specs.declared.schema.Schema.{Schema}
use Rattle.sqlite_schema.specs.declared.schema.Table.{Table}
use Rattle.hosts_sql.proofs.Places.{Has, own_at, hosts_at, watches_at, tables_of, has_hosts, trees_apart, own_not_hosts, own_not_watches, reads_tree, on_table, one_change, stays, list_stays}
use Rattle.hosts_sql.proofs.Listings.{shown_in}
use Rattle.hosts_sql.proofs.Rows.{Makes, did_at, whole_after, show_tables}
use Rattle.hosts_sql.specs.Tables.{own_name, own_table, set_own_text}
use Rattle.hosts_sql.specs.Schemas.{tree_in, checks_in, IsHostSchema}
use Rattle.hosts_sql.proofs.Texts.{query, alone, state_terms}
use Rattle.hosts_sql.proofs.Edits.{set_own_is}
use Rattle.hosts_sql.proofs.Monitor.{cast_null, cast_number, went, same_value}

-- the table has that one row, and the others are as they were
pub record OwnIsPut (schema : Schema) (version own : ℕ) (old new : Trees) : Type 0 where
  pub rows : new (tree_in schema own_name) ≡ own_row_at version own ∷ []
  pub others : (t : Table) → Has schema t → own_name ≢ t.name → new t.tree ≡ old t.tree
  pub listed : new catalog_tree ≡ old catalog_tree

-- a row with that id and that version
abbrev pub IsOwn : ℕ → Row → Type 0
IsOwn version row = (column row 0 ≡ Int (pos 1)) × (column row 2 ≡ Int (pos version))

abbrev pub picked : ℕ → ℕ → Row
picked version own = Int (pos 1) ∷ own_row_at version own

picks : (tree : ℕ) (db : Trees) (version own : ℕ) (row : Row) (rows : List Row) → overlay db [] tree ≡ db tree → db tree ≡ row ∷ [] → IsOwn version row → IsAnswer (query tree [] state_terms []) (overlay db []) (Int (pos own) ∷ []) rows
    → rows ≡ picked version own ∷ []
picks tree db version own row rows base one is a =
    let q = query tree [] state_terms [] in
    let params : Row = Int (pos own) ∷ [] in
    let staged : a.staged ≡ (params ∷ row ∷ []) ∷ [] = a.grouped ∙ rw (base, one) in
    let o : Output = ([], picked version own) in
    let same : output q (params ∷ row ∷ []) ≡ o = rw (is.0, is.1) in
    let kept : a.kept ≡ o ∷ [] = a.distinct ∙ ap (map (output q)) staged ∙ ap (λ (p : Output). p ∷ []) same in
    let ordered = one_permutation o a.ordered (subst (λ k. IsPermutation k a.ordered) kept a.same) in
    a.shown ∙ ap (λ xs. page q params (map (λ (p : Output). p.1) xs)) ordered

same_id : value_cmp (Int (pos 1)) (Int (pos 1)) ≡ Equal
unfolding value_cmp lib.Ieee.is_nan lib.Ieee.lt
same_id = refl

abbrev pub own_edit : ℕ → List Term → Trees → ℕ → ℕ → Edit
own_edit tree checks db version own = edit_of db (own_table tree checks) (ids_of (picked version own ∷ [])) Given 1 (picked version own ∷ [])

edited_is : (tree : ℕ) (checks : List Term) (db : Trees) (version own : ℕ) (row : Row) → db tree ≡ row ∷ [] → column row 0 ≡ Int (pos 1) → edited db (own_edit tree checks db version own) ≡ own_row_at version own ∷ []
edited_is tree checks db version own row one is = rw (one, is, same_id, cast_null, cast_number (pos 1), cast_number (pos version), cast_number (pos own))

module _ (schema : Schema) (h : IsHostSchema Second schema) where
  abbrev own_in : Trees → List Row
  own_in db = db (tree_in schema own_name)

  set_trees : (keys : Keys) (db next : Trees) (version own : ℕ) (row : Row) → own_in db ≡ row ∷ [] → column row 0 ≡ Int (pos 1) → IsSound schema next
      → Applies schema keys db (own_edit (tree_in schema own_name) (checks_in schema own_name) db version own) next → OwnIsPut schema version own db next
  set_trees keys db next version own row one is sound a =
      let edit = own_edit (tree_in schema own_name) (checks_in schema own_name) db version own in
      let table = (tables_of Second schema h).own in
      record {
        rows = a.rows ∙ edited_is (tree_in schema own_name) (checks_in schema own_name) db version own row one is;
        others = λ t has apart. stays schema keys db next edit t a has (λ e. trees_apart schema (own_at schema) t table has apart (sym e));
        listed = list_stays schema keys db next edit a table sound;
      }

  -- what an UPDATE of the own state does, whatever its query shows
  pub does_put : (limit : Option ℕ) (mode : Mode) (at version own : ℕ) (row : Row) (q : Query) (db : Trees) (text : List ℕ) (tally : Tally) (after : Database) → slice_get schema.tables at ≡ Some (own_at schema) → IsDatabase after → own_in db ≡ row ∷ []
      → column row 0 ≡ Int (pos 1) → ((rows : List Row) → IsAnswer q (overlay db []) (Int (pos own) ∷ []) rows → rows ≡ picked version own ∷ [])
      → Does limit mode (Int (pos own) ∷ []) (record { schema = schema; trees = db }) text None (Update at (record { lets = []; body = q })) (Ok (tally, after)) → (after.schema ≡ schema) × OwnIsPut schema version own db after.trees
  does_put limit mode at version own row q db text tally after got sound one is finds does =
      let table = own_at schema in
      let k = Update at (record { lets = []; body = q }) in
      let done = went (on_table limit mode (Int (pos own) ∷ []) (record { schema = schema; trees = db }) at table k (Ok (tally, after)) got does) in
      let now = ap (λ (p : Tally × Database). p.1) (same_value (went (went done.2).2).2) in
      let queried = went done.1 in
      let rows = finds queried.0 (queried.1.answer Null) in
      let wrote = went queried.2 in
      let trees : done.0.trees ≡ wrote.0 = ap (λ (it : Written). it.trees) (same_value wrote.2) in
      let applied = one_change schema _ db wrote.0 (edit_of db table (ids_of queried.0) Given 1 queried.0) (tables_of Second schema h).no_other wrote.1 in
      let exact = subst (λ all. Applies schema mode.keys db (edit_of db table (ids_of all) Given 1 all) wrote.0) rows applied in
      let same : after.trees ≡ wrote.0 = ap (λ (d : Database). d.trees) now ∙ trees in
      let is_same = ap (λ (d : Database). d.schema) now in
      let fits = subst (IsSound schema) same (subst (λ s. IsSound s after.trees) is_same sound) in
      (is_same, subst (OwnIsPut schema version own db) (sym same) (set_trees mode.keys db wrote.0 version own row one is fits exact))

-- the one row
pub first_row : {P : Row → Type 0} (rows : List Row) (shown : Row) → map own_shown rows ≡ shown ∷ [] → ((row : Row) → own_shown row ≡ shown → P row) → (row : Row) × (rows ≡ row ∷ []) × P row
first_row [] shown one p = absurd cc
first_row (row ∷ []) shown one p = (row, refl, p row cc)
first_row (row ∷ next ∷ rows) shown one p = absurd cc

pub made_own : (own : ℕ) (from to : Database) → IsWhole Second from → Ran set_own_text (Int (pos own) ∷ []) from to → Makes (with_own own) from to
made_own own from to whole ran =
    let schema = from.schema in
    let tree = tree_in schema own_name in
    let tables = tables_of Second schema whole.0.0 in
    let hosts = has_hosts schema whole.0.0 in
    let means = set_own_is schema tree (checks_in schema own_name) tables.own in
    let it = did_at schema set_own_text (Int (pos own) ∷ []) (Update means.0 (alone (query tree [] state_terms []))) from to refl tt means.2.command means.2.plain ran in
    let first = first_row {P = IsOwn 2} (from.trees tree) _ whole.0.1 (λ row same. (ap (λ r. column r 0) same, ap (λ r. column r 1) same)) in
    let base = reads_tree schema (own_at schema) tables.own from.trees in
    let done = does_put schema whole.0.0 it.1 it.2 means.0 2 own first.0 (query tree [] state_terms []) from.trees it.0 it.3 to means.1 it.5 first.1 first.2.0 (λ rows. picks tree from.trees 2 own first.0 rows base first.1 first.2) it.4 in
    let hosts_stay = done.1.others (hosts_at schema) hosts own_not_hosts in
    let watches_stay = done.1.others (watches_at schema) tables.watches own_not_watches in
    let own_row : HasOwnRow 2 (to.trees tree) = subst (HasOwnRow 2) (sym done.1.rows) refl in
    let after = whole_after from to whole done.0 own_row (subst (AreOwn is_host) (sym hosts_stay) whole.1.0) (subst (AreOwn is_watched) (sym watches_stay) whole.1.1) in
    let shows = show_tables from to whole.0.0 done.0 it.5 done.1.listed whole.0.1 own_row in
    let state = ap (λ rows. number_at rows 3) done.1.rows in
    let hosts_same = ap (λ rows. from_entries (map host_of rows)) hosts_stay in
    let watches = ap (λ rows. from_entries (map watch_of rows)) watches_stay in
    let same : shown_in schema to.trees ≡ with_own own (shown_in schema from.trees) = λ i. record { own = state i; hosts = hosts_same i; watches = watches i } in
    record { whole = after; rows = shows.late ∙ same ∙ ap (with_own own) (sym shows.early) }
