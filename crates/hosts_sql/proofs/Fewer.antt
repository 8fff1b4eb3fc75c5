-- What the DELETEs do to the rows that the trees stand for.
use Rattle.std.proofs.Common.{◌≡◌, ◌≢◌, ℕ, Bool, true, cond, not, ◌&&◌, List, [], ◌∷◌, map, filter, slice_get, None, Some, Option, Ok, refl, sym, ap, subst, ◌∙◌}
use Rattle.std.proofs.lemmas.Bool.{and_parts}
use Rattle.std.specs.Cmp.Lexicographic.{nat_list_cmp_total}
use Rattle.std.specs.FinMap.{from_entries, slice_cmp-IsAntisymmetric, nat_cmp-IsAntisymmetric}
use Rattle.std.specs.Ordering.{is_eq, ordering_then, int_cmp}
use Rattle.std.proofs.lemmas.Map.Text.{is_eq-slice_cmp}
use Rattle.sqlite_value.specs.declared.value.Value.TheVariants.{Null, Blob}
use Rattle.sqlite_value.specs.Order.{Row, column, bytes}
use Rattle.sqlite_sql.specs.Term.{Term}
use Rattle.std.specs.List.{flat_map}
use Rattle.std.proofs.Math.Bool.{and-true}
use Rattle.hosts_db.proofs.Orders.{eq_then}
use Rattle.sqlite_trees.specs.View.{is_int}
use Rattle.sqlite_trees.specs.Tree.{Trees, rowid}
use Rattle.sqlite_trees.specs.Objects.{catalog_tree}
use Rattle.sqlite_schema.specs.declared.schema.Table.{Table}
use Rattle.sqlite_schema.specs.declared.command.Command.TheVariants.{Delete}
use Rattle.sqlite_rules.specs.Edit.{edit_of, id_in, Applies}
use Rattle.sqlite_rules.specs.Calls.{ids_of}
use Rattle.sqlite_rules.specs.declared.error.Rowids.TheVariants.{Given}
use Rattle.sqlite.specs.declared.run.Mode.{Mode}
use Rattle.sqlite.specs.Does.{Tally, Does}
use Rattle.sqlite.specs.Rows.{Written}
use Rattle.sqlite.specs.Effect.{Database, IsDatabase}
use Rattle.sqlite_catalog.specs.Listing.{IsSound}
use Rattle.sqlite_schema.specs.declared.schema.Schema.{Schema}
use Rattle.definitions.specs.Bytes.{Bytes, bytes_cmp, same_bytes}
use Rattle.definitions.specs.Nsm.{MyId}
use Rattle.definitions.specs.Hosts.{my_id_cmp}
use Rattle.hosts_sql.specs.Given.{my_given, watch_given}
use Rattle.hosts_sql.specs.Maps.{is_key_of, without_host, without_watches}
use Rattle.hosts_sql.specs.Own.{is_blob, is_host, is_watched, AreOwn}
use Rattle.hosts_sql.specs.Tables.{hosts_name, watches_name, delete_host_text, delete_watch_text, delete_watches_text}
use Rattle.hosts_sql.specs.Schemas.{tree_in, has_no_other, IsHostSchema}
use Rattle.hosts_sql.specs.Shown.{host_of, watch_of, number_at}
use Rattle.sql_transactions.specs.Work.{Ran}
use Rattle.hosts_sql.specs.Wrote.{HasOwnRow, IsWhole}
use Rattle.hosts_sql.specs.declared.tables.TablesVersion.TheVariants.{Second}
use Rattle.hosts_sql.proofs.Places.{Has, own_at, hosts_at, watches_at, tables_of, has_hosts, trees_apart, own_not_hosts, own_not_watches, hosts_not_watches, reads_tree, on_table, one_change, stays, list_stays}
use Rattle.hosts_sql.proofs.Listings.{shown_in}
use Rattle.hosts_sql.proofs.Monitor.{went, same_value}
use Rattle.hosts_sql.proofs.OwnIds.{own_ids, own_filtered}
use Rattle.hosts_sql.proofs.Gone.{AreOwnIds, deleted}
use Rattle.hosts_sql.proofs.Texts.{query, alone, host_tests, watch_tests, watches_tests}
use Rattle.hosts_sql.proofs.Edits.{rowids, delete_host_is, delete_watch_is, delete_watches_is}
use Rattle.hosts_sql.proofs.Delete.{passes, answered, each_passing}
use Rattle.hosts_sql.proofs.Shrink.{blob_holds, int_holds, left_map}
use Rattle.hosts_sql.proofs.Watch.{watch_exact, watch_total}
use Rattle.hosts_sql.proofs.Rows.{Makes, whole_after, show_tables, did_at}

pub host_whole : (r : Row) → is_host r ≡ true → is_int (rowid r) ≡ true
host_whole r h = (and_parts (is_int (rowid r)) (is_blob (column r 1)) h).0

watch_whole : (r : Row) → is_watched r ≡ true → is_int (rowid r) ≡ true
watch_whole r h = (and_parts (is_int (rowid r)) _ h).0

-- ---- what the texts' conditions test

abbrev pub host_given : Bytes → Row
host_given name = Blob name ∷ []

host_test : (name : Bytes) (r : Row) → is_host r ≡ true → passes host_tests (host_given name) r ≡ same_bytes (host_of r).0 name
host_test name r h = and-true _ ∙ blob_holds (column r 1) name (and_parts (is_int (rowid r)) (is_blob (column r 1)) h).1

my_test : (a b : MyId) → is_eq (my_id_cmp a b) ≡ (same_bytes a.my_name b.my_name && (is_eq (int_cmp a.prog b.prog) && (is_eq (int_cmp a.vers b.vers) && is_eq (int_cmp a.proc b.proc))))
my_test a b =
    eq_then _ _ ∙ ap (λ x. x && is_eq (ordering_then (int_cmp a.prog b.prog) (ordering_then (int_cmp a.vers b.vers) (int_cmp a.proc b.proc)))) (is_eq-slice_cmp a.my_name b.my_name)
    ∙ ap (λ x. same_bytes a.my_name b.my_name && x) (eq_then _ _ ∙ ap (λ x. is_eq (int_cmp a.prog b.prog) && x) (eq_then _ _))

-- the columns of a watch's row
record AreColumns (r : Row) : Type 0 where
  mon : is_blob (column r 1) ≡ true
  my : is_blob (column r 2) ≡ true
  prog : is_int (column r 3) ≡ true
  vers : is_int (column r 4) ≡ true
  proc : is_int (column r 5) ≡ true

columns_of : (r : Row) → is_watched r ≡ true → AreColumns r
columns_of r h =
    let a = and_parts _ _ h in
    let b = and_parts _ _ a.1 in
    let c = and_parts _ _ b.1 in
    let d = and_parts _ _ c.1 in
    let e = and_parts _ _ d.1 in
    record { mon = b.0; my = c.0; prog = d.0; vers = e.0; proc = e.1 }

watches_test : (my : MyId) (r : Row) → is_watched r ≡ true → passes watches_tests (my_given my) r ≡ is_key_of None my (watch_of r).0
watches_test my r h =
    let c = columns_of r h in
    let one = blob_holds (column r 2) my.my_name c.my in
    let two = int_holds (column r 3) my.prog c.prog in
    let three = int_holds (column r 4) my.vers c.vers in
    let four = and-true _ ∙ int_holds (column r 5) my.proc c.proc in
    (λ i. one i && (two i && (three i && four i))) ∙ sym (my_test (watch_of r).0.my my)

watch_test : (mon : Bytes) (my : MyId) (r : Row) → is_watched r ≡ true → passes watch_tests (watch_given mon my) r ≡ is_key_of (Some mon) my (watch_of r).0
watch_test mon my r h =
    let c = columns_of r h in
    let zero = blob_holds (column r 1) mon c.mon in
    let one = blob_holds (column r 2) my.my_name c.my in
    let two = int_holds (column r 3) my.prog c.prog in
    let three = int_holds (column r 4) my.vers c.vers in
    let four = and-true _ ∙ int_holds (column r 5) my.proc c.proc in
    let rest : (same_bytes (bytes (column r 2)) my.my_name && (is_eq (int_cmp (id_in (column r 3)) my.prog) && (is_eq (int_cmp (id_in (column r 4)) my.vers) && is_eq (int_cmp (id_in (column r 5)) my.proc)))) ≡ is_eq (my_id_cmp (watch_of r).0.my my) = sym (my_test (watch_of r).0.my my) in
    (λ i. zero i && (one i && (two i && (three i && four i)))) ∙ ap (λ x. same_bytes (bytes (column r 1)) mon && x) rest

-- ---- the trees

-- a table has lost the rows that pass, and the others are as they were
pub record Left (schema : Schema) (t : Table) (p : Row → Bool) (old new : Trees) : Type 0 where
  pub rows : new t.tree ≡ filter (λ r. not (p r)) (old t.tree)
  pub others : (u : Table) → Has schema u → t.name ≢ u.name → new u.tree ≡ old u.tree
  pub listed : new catalog_tree ≡ old catalog_tree

-- what a DELETE from a table does, each of whose rows has its rowid
pub does_delete : (schema : Schema) (table : Table) (limit : Option ℕ) (mode : Mode) (tests : List Term) (params : Row) (db : Trees) (at : ℕ) (text : List ℕ) (tally : Tally) (after : Database) → has_no_other schema ≡ true → Has schema table
    → slice_get schema.tables at ≡ Some table → AreOwnIds (db table.tree) → IsDatabase after → Does limit mode params (record { schema = schema; trees = db }) text None (Delete at (alone (query table.tree tests rowids []))) (Ok (tally, after))
    → (after.schema ≡ schema) × Left schema table (passes tests params) db after.trees
does_delete schema table limit mode tests params db at text tally after free has got own sound h =
    let k = Delete at (alone (query table.tree tests rowids [])) in
    let done = went (on_table limit mode params (record { schema = schema; trees = db }) at table k (Ok (tally, after)) got h) in
    let now = ap (λ (p : Tally × Database). p.1) (same_value (went (went done.2).2).2) in
    let queried = went done.1 in
    let a = queried.1.answer Null in
    let base = reads_tree schema table has db in
    let moved = answered table.tree tests params db queried.0 a (a.grouped ∙ ap (flat_map (λ row. cond (passes tests params row) ((params ∷ row ∷ []) ∷ []) [])) base ∙ each_passing (passes tests params) (λ row. params ∷ row ∷ []) (db table.tree)) in
    let wrote = went queried.2 in
    let trees : done.0.trees ≡ wrote.0 = ap (λ (it : Written). it.trees) (same_value wrote.2) in
    let edit = edit_of db table (ids_of queried.0) Given 0 [] in
    let same : after.trees ≡ wrote.0 = ap (λ (d : Database). d.trees) now ∙ trees in
    let is_same = ap (λ (d : Database). d.schema) now in
    let fits = subst (λ s. IsSound s after.trees) is_same sound in
    let applied = subst (Applies schema mode.keys db edit) (sym same) (one_change schema _ db wrote.0 edit free wrote.1) in (
      is_same,
      record {
        rows = applied.rows ∙ deleted (passes tests params) (db table.tree) (ids_of queried.0) own moved;
        others = λ u there apart. stays schema mode.keys db after.trees edit u applied there (λ e. trees_apart schema table u has there apart (sym e));
        listed = list_stays schema mode.keys db after.trees edit applied has fits;
      },
    )

-- ---- and the rows

module _ (schema : Schema) (h : IsHostSchema Second schema) where
  left_hosts_show : (name : Bytes) (old new : Trees) → AreOwn is_host (old (tree_in schema hosts_name)) → Left schema (hosts_at schema) (passes host_tests (host_given name)) old new → shown_in schema new ≡ without_host name (shown_in schema old)
  left_hosts_show name old new whole g =
      let tables = tables_of Second schema h in
      let exact = slice_cmp-IsAntisymmetric nat_cmp-IsAntisymmetric in
      let left = left_map host_of is_host (passes host_tests (host_given name)) (λ k. same_bytes k name) (host_test name) nat_list_cmp_total exact (old (tree_in schema hosts_name)) whole in
      let hosts = ap (λ rows. from_entries {R = bytes_cmp} (map host_of rows)) g.rows ∙ left in
      let own = ap (λ rows. number_at rows 3) (g.others (own_at schema) tables.own (λ e. own_not_hosts (sym e))) in
      let watches = ap (λ rows. from_entries (map watch_of rows)) (g.others (watches_at schema) tables.watches hosts_not_watches) in
      λ i. record { own = own i; hosts = hosts i; watches = watches i }

  left_watches_show : (mon : Option Bytes) (my : MyId) (p : Row → Bool) → ((r : Row) → is_watched r ≡ true → p r ≡ is_key_of mon my (watch_of r).0) → (old new : Trees) → AreOwn is_watched (old (tree_in schema watches_name)) → Left schema (watches_at schema) p old new
      → shown_in schema new ≡ without_watches mon my (shown_in schema old)
  left_watches_show mon my p agrees old new whole g =
      let tables = tables_of Second schema h in
      let left = left_map watch_of is_watched p (is_key_of mon my) agrees watch_total watch_exact (old (tree_in schema watches_name)) whole in
      let watches = ap (λ rows. from_entries (map watch_of rows)) g.rows ∙ left in
      let own = ap (λ rows. number_at rows 3) (g.others (own_at schema) tables.own (λ e. own_not_watches (sym e))) in
      let hosts = ap (λ rows. from_entries (map host_of rows)) (g.others (hosts_at schema) (has_hosts schema h) (λ e. hosts_not_watches (sym e))) in
      λ i. record { own = own i; hosts = hosts i; watches = watches i }

pub made_without_host : (name : Bytes) (from to : Database) → IsWhole Second from → Ran delete_host_text (host_given name) from to → Makes (without_host name) from to
made_without_host name from to whole ran =
    let schema = from.schema in
    let tree = tree_in schema hosts_name in
    let tables = tables_of Second schema whole.0.0 in
    let hosts = has_hosts schema whole.0.0 in
    let means = delete_host_is schema tree hosts in
    let it = did_at schema delete_host_text (host_given name) _ from to refl tt means.2.command means.2.plain ran in
    let done = does_delete schema (hosts_at schema) it.1 it.2 host_tests (host_given name) from.trees means.0 it.0 it.3 to tables.no_other hosts means.1 (own_ids is_host host_whole (from.trees tree) whole.1.0) it.5 it.4 in
    let own = subst (HasOwnRow 2) (sym (done.1.others (own_at schema) tables.own (λ e. own_not_hosts (sym e)))) whole.0.1 in
    let left = subst (AreOwn is_host) (sym done.1.rows) (own_filtered is_host _ (from.trees tree) whole.1.0) in
    let watches = subst (AreOwn is_watched) (sym (done.1.others (watches_at schema) tables.watches hosts_not_watches)) whole.1.1 in
    let shows = show_tables from to whole.0.0 done.0 it.5 done.1.listed whole.0.1 own in
    record { whole = whole_after from to whole done.0 own left watches; rows = shows.late ∙ left_hosts_show schema whole.0.0 name from.trees to.trees whole.1.0 done.1 ∙ ap (without_host name) (sym shows.early) }

module _ (mon : Option Bytes) (my : MyId) (params : Row) (tests : List Term) (agrees : (r : Row) → is_watched r ≡ true → passes tests params r ≡ is_key_of mon my (watch_of r).0) where
  made_left : (from to : Database) (whole : IsWhole Second from) (at : ℕ) (text : List ℕ) (limit : Option ℕ) (mode : Mode) (tally : Tally) → slice_get from.schema.tables at ≡ Some (watches_at from.schema)
      → Does limit mode params (record { schema = from.schema; trees = from.trees }) text None (Delete at (alone (query (tree_in from.schema watches_name) tests rowids []))) (Ok (tally, to)) → IsDatabase to → Makes (without_watches mon my) from to
  made_left from to whole at text limit mode tally got does sound =
      let schema = from.schema in
      let tree = tree_in schema watches_name in
      let tables = tables_of Second schema whole.0.0 in
      let done = does_delete schema (watches_at schema) limit mode tests params from.trees at text tally to tables.no_other tables.watches got (own_ids is_watched watch_whole (from.trees tree) whole.1.1) sound does in
      let own = subst (HasOwnRow 2) (sym (done.1.others (own_at schema) tables.own (λ e. own_not_watches (sym e)))) whole.0.1 in
      let hosts = subst (AreOwn is_host) (sym (done.1.others (hosts_at schema) (has_hosts schema whole.0.0) (λ e. hosts_not_watches (sym e)))) whole.1.0 in
      let left = subst (AreOwn is_watched) (sym done.1.rows) (own_filtered is_watched _ (from.trees tree) whole.1.1) in
      let shows = show_tables from to whole.0.0 done.0 sound done.1.listed whole.0.1 own in
      record { whole = whole_after from to whole done.0 own hosts left; rows = shows.late ∙ left_watches_show schema whole.0.0 mon my (passes tests params) agrees from.trees to.trees whole.1.1 done.1 ∙ ap (without_watches mon my) (sym shows.early) }

pub made_without_watch : (mon : Bytes) (my : MyId) (from to : Database) → IsWhole Second from → Ran delete_watch_text (watch_given mon my) from to → Makes (without_watches (Some mon) my) from to
made_without_watch mon my from to whole ran =
    let means = delete_watch_is from.schema (tree_in from.schema watches_name) (tables_of Second from.schema whole.0.0).watches in
    let it = did_at from.schema delete_watch_text (watch_given mon my) _ from to refl tt means.2.command means.2.plain ran in
    made_left (Some mon) my (watch_given mon my) watch_tests (watch_test mon my) from to whole means.0 it.0 it.1 it.2 it.3 means.1 it.4 it.5

pub made_without_watches : (my : MyId) (from to : Database) → IsWhole Second from → Ran delete_watches_text (my_given my) from to → Makes (without_watches None my) from to
made_without_watches my from to whole ran =
    let means = delete_watches_is from.schema (tree_in from.schema watches_name) (tables_of Second from.schema whole.0.0).watches in
    let it = did_at from.schema delete_watches_text (my_given my) _ from to refl tt means.2.command means.2.plain ran in
    made_left None my (my_given my) watches_tests (watches_test my) from to whole means.0 it.0 it.1 it.2 it.3 means.1 it.4 it.5
