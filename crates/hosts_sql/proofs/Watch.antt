-- What the statement of a new watch does to the rows.
use Rattle.std.proofs.Common.{◌≡◌, ℕ, ℤ, List, [], ◌∷◌, map, true, false, None, Some, Option, slice_get, Ok, sym, ap, subst, ◌∙◌}
use Rattle.std.specs.Cmp.{IsTotalOrder, on_total, then_total, int_cmp_total}
use Rattle.std.specs.Cmp.Lexicographic.{nat_list_cmp_total}
use Rattle.std.specs.FinMap.{IsAntisymmetric, get, get-from_entries, from_entries, insert, find, slice_cmp-IsAntisymmetric, nat_cmp-IsAntisymmetric}
use Rattle.std.proofs.lemmas.Map.Lookups.{exact_pairs, exact_signed}
use Rattle.sqlite_value.specs.declared.value.Value.{Value}
use Rattle.sqlite_value.specs.declared.value.Value.TheVariants.{Null, Int, Blob}
use Rattle.sqlite_value.specs.Order.{Row}
use Rattle.sqlite_sql.specs.Term.{Term, lit, col}
use Rattle.sqlite_schema.specs.declared.schema.Keys.{Keys}
use Rattle.sqlite_schema.specs.declared.command.Source.TheVariants.{Values}
use Rattle.sqlite_schema.specs.declared.command.Command.TheVariants.{Insert}
use Rattle.sqlite_trees.specs.Tree.{Trees, put_row}
use Rattle.sqlite_trees.specs.Objects.{catalog_tree}
use Rattle.sqlite_rules.specs.Edit.{Edit, edit_of, edited, next_rowid, is_taken, are_fresh, Applies}
use Rattle.sqlite_rules.specs.declared.error.Rowids.TheVariants.{Chosen}
use Rattle.sqlite.specs.declared.run.Mode.{Mode}
use Rattle.sqlite.specs.Does.{Tally, Does}
use Rattle.sqlite.specs.Effect.{Database, IsDatabase}
use Rattle.sqlite_catalog.specs.Listing.{IsSound}
use Rattle.sqlite_schema.specs.declared.schema.Schema.{Schema}
use Rattle.hosts_sql.specs.Schemas.{tree_in, IsHostSchema}
use Rattle.hosts_sql.specs.declared.tables.TablesVersion.TheVariants.{Second}
use Rattle.hosts_sql.specs.Given.{watch_params}
use Rattle.hosts_sql.specs.Maps.{WatchKey, key_cmp, with_watch}
use Rattle.definitions.specs.Nsm.{MyId}
use Rattle.hosts_sql.specs.Tables.{own_name, hosts_name, watches_name, watches_table}
use Rattle.hosts_sql.specs.Shown.{host_of, watch_of, number_at}
use Rattle.hosts_sql.proofs.Listings.{shown_in}
use Rattle.hosts_sql.proofs.Places.{own_at, hosts_at, watches_at, tables_of, has_hosts, trees_apart, own_not_watches, hosts_not_watches, on_table, one_change, stays, list_stays}
use Rattle.hosts_sql.proofs.PutLemmas.{put_is_insert}
use Rattle.hosts_sql.proofs.Monitor.{cast_null, cast_number, inserted, untaken}

abbrev as_pair : WatchKey → List ℕ × (List ℕ × (ℤ × (ℤ × ℤ)))
as_pair k = (k.mon, (k.my.my_name, (k.my.prog, (k.my.vers, k.my.proc))))

-- watches that compare alike are one
pub watch_exact : IsAntisymmetric key_cmp
watch_exact a b e =
    let names = slice_cmp-IsAntisymmetric nat_cmp-IsAntisymmetric in
    let numbers = exact_signed in
    let two = exact_pairs _ _ numbers numbers in
    let three = exact_pairs _ _ numbers two in
    let four = exact_pairs _ _ names three in
    ap (λ (p : List ℕ × (List ℕ × (ℤ × (ℤ × ℤ)))). let k : WatchKey = record { mon = p.0; my = record { my_name = p.1.0; prog = p.1.1.0; vers = p.1.1.1.0; proc = p.1.1.1.1 } } in k) (exact_pairs _ _ names four (as_pair a) (as_pair b) e)

pub watch_total : IsTotalOrder key_cmp
watch_total =
    then_total (on_total (λ (k : WatchKey). k.mon) nat_list_cmp_total)
    (on_total (λ (k : WatchKey). k.my) (then_total (on_total (λ (m : MyId). m.my_name) nat_list_cmp_total) (then_total (on_total (λ (m : MyId). m.prog) int_cmp_total) (then_total (on_total (λ (m : MyId). m.vers) int_cmp_total) (on_total (λ (m : MyId). m.proc) int_cmp_total)))))

abbrev pub watch_row : Value → WatchKey → List ℕ → Row
watch_row id k private = id ∷ Blob k.mon ∷ Blob k.my.my_name ∷ Int k.my.prog ∷ Int k.my.vers ∷ Int k.my.proc ∷ Blob private ∷ []

abbrev pub watch_terms : List Term
watch_terms = lit Null ∷ col 0 0 ∷ col 0 1 ∷ col 0 2 ∷ col 0 3 ∷ col 0 4 ∷ col 0 5 ∷ []

pub record GrownWatches (schema : Schema) (row : Row) (old new : Trees) : Type 0 where
  pub rows : new (tree_in schema watches_name) ≡ put_row row (old (tree_in schema watches_name))
  pub fresh : is_taken (old (tree_in schema watches_name)) row ≡ false
  pub own : new (tree_in schema own_name) ≡ old (tree_in schema own_name)
  pub hosts : new (tree_in schema hosts_name) ≡ old (tree_in schema hosts_name)
  pub listed : new catalog_tree ≡ old catalog_tree

abbrev the_edit : ℕ → Trees → WatchKey → List ℕ → Edit
the_edit tree db k private = edit_of db (watches_table tree) [] Chosen 0 ((Null ∷ watch_params k private) ∷ [])

news_is : (tree : ℕ) (db : Trees) (k : WatchKey) (private : List ℕ) → (the_edit tree db k private).news ≡ watch_row (Int (next_rowid (db tree))) k private ∷ []
news_is tree db k private = rw (cast_null, cast_number k.my.prog, cast_number k.my.vers, cast_number k.my.proc)

module _ (schema : Schema) (h : IsHostSchema Second schema) where
  grown : (keys : Keys) (db next : Trees) (k : WatchKey) (private : List ℕ) → IsSound schema next → Applies schema keys db (the_edit (tree_in schema watches_name) db k private) next
      → GrownWatches schema (watch_row (Int (next_rowid (db (tree_in schema watches_name)))) k private) db next
  grown keys db next k private sound a =
      let tree = tree_in schema watches_name in
      let news = news_is tree db k private in
      let row = watch_row (Int (next_rowid (db tree))) k private in
      let tables = tables_of Second schema h in
      let hosts = has_hosts schema h in
      record {
        rows = a.rows ∙ ap (λ all. edited db (record { table = watches_table tree; gone = []; news = all })) news;
        fresh = untaken (is_taken (db tree) row) (subst (λ all. are_fresh (db tree) all ≡ true) news a.fresh);
        own = stays schema keys db next (the_edit tree db k private) (own_at schema) a tables.own (trees_apart schema (own_at schema) (watches_at schema) tables.own tables.watches own_not_watches);
        hosts = stays schema keys db next (the_edit tree db k private) (hosts_at schema) a hosts (trees_apart schema (hosts_at schema) (watches_at schema) hosts tables.watches hosts_not_watches);
        listed = list_stays schema keys db next (the_edit tree db k private) a tables.watches sound;
      }

  pub does_watch : (limit : Option ℕ) (mode : Mode) (at : ℕ) (k : WatchKey) (private : List ℕ) (db : Trees) (text : List ℕ) (tally : Tally) (after : Database) → slice_get schema.tables at ≡ Some (watches_at schema) → IsDatabase after
      → Does limit mode (watch_params k private) (record { schema = schema; trees = db }) text None (Insert at (Values watch_terms 7)) (Ok (tally, after))
      → (after.schema ≡ schema) × GrownWatches schema (watch_row (Int (next_rowid (db (tree_in schema watches_name)))) k private) db after.trees
  does_watch limit mode at k private db text tally after got sound does =
      let tree = tree_in schema watches_name in
      let ran = on_table limit mode (watch_params k private) (record { schema = schema; trees = db }) at (watches_table tree) (Insert at (Values watch_terms 7)) (Ok (tally, after)) got does in
      let done = inserted limit mode (watch_params k private) schema (watches_table tree) at (Values watch_terms 7) db tally after ran in
      let applied = one_change schema _ db after.trees (edit_of db (watches_table tree) [] Chosen 0 done.1) (tables_of Second schema h).no_other done.3 in
      (done.0, grown mode.keys db after.trees k private (subst (λ s. IsSound s after.trees) done.0 sound) (subst (λ all. Applies schema mode.keys db (edit_of db (watches_table tree) [] Chosen 0 all) after.trees) done.2.1 applied))

-- one more row is one more watch
pub grown_watches : (schema : Schema) (k : WatchKey) (private : List ℕ) (row : Row) (old new : Trees) → GrownWatches schema row old new → watch_of row ≡ (k, private)
    → get (shown_in schema old).watches k ≡ None → shown_in schema new ≡ with_watch k private (shown_in schema old)
grown_watches schema k private row old new g is none =
    let tree = tree_in schema watches_name in
    let key = ap (λ (p : WatchKey × List ℕ). p.0) is in
    let absent = subst (λ x. find key_cmp x (map watch_of (old tree)) ≡ None) (sym key) (sym (get-from_entries watch_total (map watch_of (old tree)) k) ∙ none) in
    let put = put_is_insert watch_total watch_exact watch_of (old tree) row g.fresh absent in
    let watches = ap (λ rows. from_entries (map watch_of rows)) g.rows ∙ put ∙ ap (λ (p : WatchKey × List ℕ). insert (shown_in schema old).watches p.0 p.1) is in
    let own = ap (λ rows. number_at rows 3) g.own in
    let hosts = ap (λ rows. from_entries (map host_of rows)) g.hosts in
    λ i. record { own = own i; hosts = hosts i; watches = watches i }
