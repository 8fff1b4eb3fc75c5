-- What the INSERT of the old table's rows into the new one does.
use Rattle.std.proofs.Common.{◌≡◌, ◌≢◌, ◌⊎◌, inl, inr, ℕ, pos, Bool, true, false, not, ◌&&◌, slice_get, List, [], ◌∷◌, ◌++◌, map, drop, None, Some, Option, Ok, refl, sym, ap, subst, ◌∙◌, arith, append-nil}
use Rattle.std.specs.List.{AllByRecursion, list_all, list_any, flat_map}
use Rattle.std.proofs.lemmas.Bool.{and_parts, not-true, eq-eqb}
use Rattle.std.specs.List.Sorted.{IsPermutation}
use Rattle.std.proofs.lemmas.List.Sorted.{IsPermutation-map, IsPermutation-trans, list_any-IsPermutation}
use Rattle.std.specs.Cmp.Lexicographic.{nat_list_cmp_total}
use Rattle.std.specs.FinMap.{from_entries}
use Rattle.sqlite_value.specs.declared.value.Value.{Value}
use Rattle.sqlite_value.specs.declared.value.Value.TheVariants.{Null, Int}
use Rattle.sqlite_value.specs.Order.{Row, column}
use Rattle.sqlite_sql.specs.Query.{IsAnswer, output, Output}
use Rattle.sqlite_sql.specs.Program.{overlay}
use Rattle.sqlite_schema.specs.declared.schema.Constraint.TheVariants.{Datatype, NotNull, Unique}
use Rattle.sqlite_schema.specs.declared.schema.Kind.TheVariants.{Integer}
use Rattle.sqlite_schema.specs.declared.schema.Keys.{Keys}
use Rattle.sqlite_schema.specs.declared.schema.Schema.{Schema}
use Rattle.sqlite_schema.specs.declared.schema.Table.{Table}
use Rattle.sqlite_schema.specs.Rules.{passes, guards, clashes}
use Rattle.sqlite_trees.specs.Objects.{catalog_tree}
use Rattle.sqlite_trees.proofs.ListLemmas.{all-slice_get}
use Rattle.sqlite_catalog.specs.Listing.{IsSound, IsGuarded, automatic}
use Rattle.sqlite_rules.specs.Lists as rules
use Rattle.sqlite_schema.specs.declared.command.Source.TheVariants as source
use Rattle.sqlite_schema.specs.declared.command.Command.TheVariants.{Insert}
use Rattle.sqlite_trees.specs.View.{is_int}
use Rattle.sqlite_trees.specs.Tree.{Trees}
use Rattle.sqlite_rules.specs.Cast.{cast, cast_row}
use Rattle.sqlite_rules.specs.Edit.{Edit, edit_of, numbered, put_all, Applies}
use Rattle.sqlite_rules.specs.declared.error.Rowids.TheVariants.{Chosen}
use Rattle.sqlite.specs.declared.run.Mode.{Mode}
use Rattle.sqlite.specs.Does.{Tally, Does}
use Rattle.sqlite.specs.Rows.{Written}
use Rattle.sqlite.specs.Effect.{Database, IsDatabase}
use Rattle.definitions.specs.Bytes.{bytes_cmp}
use Rattle.hosts_sql.specs.Tables.{hosts_name, hosts_table, first_hosts_table}
use Rattle.hosts_sql.specs.Schemas.{tree_in, IsHostSchema}
use Rattle.hosts_sql.specs.declared.tables.TablesVersion.TheVariants.{Second}
use Rattle.hosts_sql.specs.Shown.{host_of, upgraded_row}
use Rattle.hosts_sql.specs.Own.{is_host, AreOwn}
use Rattle.hosts_sql.specs.Reading.{AreApart}
use Rattle.hosts_sql.proofs.Create.{none_own}
use Rattle.hosts_sql.proofs.Fewer.{host_whole}
use Rattle.hosts_sql.proofs.Listed.{bytes_exact}
use Rattle.hosts_sql.proofs.Monitor.{cast_null, cast_number, went, same_value}
use Rattle.hosts_sql.proofs.OwnIds.{int_is, own_ids}
use Rattle.hosts_sql.proofs.Permuted.{same_entries}
use Rattle.hosts_sql.proofs.Places.{Has, hosts_at, tables_of, has_hosts, trees_apart, reads_tree, on_table, one_change, stays, list_stays}
use Rattle.hosts_sql.proofs.Texts.{alone}
use Rattle.hosts_sql.proofs.Reading.{map_twice, env_of}
use Rattle.hosts_sql.proofs.Apart.{clash, hosts_apart}
use Rattle.hosts_sql.proofs.Meant.{copy_query}
use Rattle.hosts_sql.proofs.Moved.{put_all_moves, put_all_own, has_name, hosts_numbered, hosts_fit}
use Rattle.hosts_sql.proofs.Typed.{IsTyped, typed_rows}
use Rattle.std.proofs.lemmas.List.Concat.{flat_map_single}

-- a row of the old table without its rowid, with the full quota
abbrev pub copied : Row → Row
copied row = Null ∷ column row 1 ∷ column row 2 ∷ column row 3 ∷ Int (pos 65536) ∷ []

copied_rows : (tree : ℕ) (db : Trees) (rows : List Row) → overlay db [] tree ≡ db tree → IsAnswer (copy_query tree) (overlay db []) [] rows → IsPermutation (map copied (db tree)) rows
copied_rows tree db rows base a =
    let q = copy_query tree in
    let staged : a.staged ≡ map env_of (db tree) = a.grouped ∙ ap (flat_map (λ row. env_of row ∷ [])) base ∙ flat_map_single env_of (db tree) in
    let shown : map (λ (o : Output). o.1) a.kept ≡ map copied (db tree) =
    ap (map (λ (o : Output). o.1)) (a.distinct ∙ ap (map (output q)) staged) ∙ ap (map (λ (o : Output). o.1)) (map_twice env_of (output q) (db tree)) ∙ map_twice (λ r. output q (env_of r)) (λ (o : Output). o.1) (db tree) in
    let moved = IsPermutation-map (λ (o : Output). o.1) a.kept a.ordered a.same in
    subst (λ out. IsPermutation (map copied (db tree)) out) (sym a.shown) (subst (λ xs. IsPermutation xs (map (λ (o : Output). o.1) a.ordered)) shown moved)

-- ---- as they are stored

abbrev pub cast_source : Row → Row
cast_source s = cast_row (hosts_table 0) (drop 0 s)

number_cast : (v : Value) → is_int v ≡ true → cast Integer v ≡ v
number_cast v h = ap (cast Integer) (int_is v h) ∙ cast_number _ ∙ sym (int_is v h)

cast_copied : (rows : List Row) → AllByRecursion IsTyped rows → map cast_source (map copied rows) ≡ map copied rows
cast_copied [] typed = refl
cast_copied (r ∷ rs) typed =
    let id = cast_null in
    let epoch = number_cast (column r 2) typed.0.epoch in
    let seen = number_cast (column r 3) typed.0.seen in
    let quota = cast_number (pos 65536) in
    let rest = cast_copied rs typed.1 in
    λ i. (id i ∷ column r 1 ∷ epoch i ∷ seen i ∷ quota i ∷ []) ∷ rest i

named_copied : (rows : List Row) → AllByRecursion IsTyped rows → list_any (λ s. not (has_name s)) (map copied rows) ≡ false
named_copied [] typed = refl
named_copied (r ∷ rs) typed = ap (λ b. Rattle.std.proofs.Common.◌||◌ (not b) (list_any (λ s. not (has_name s)) (map copied rs))) typed.0.name ∙ named_copied rs typed.1

-- ---- the new table

-- it has the hosts of the old one, with the full quota, and the others are as they were
pub record Copied (schema : Schema) (first : Table) (old new : Trees) : Type 0 where
  pub hosts : from_entries {R = bytes_cmp} (map host_of (new (tree_in schema hosts_name))) ≡ from_entries (map host_of (map upgraded_row (old first.tree)))
  pub ids : AreOwn is_host (new (tree_in schema hosts_name))
  pub others : (t : Table) → Has schema t → hosts_name ≢ t.name → new t.tree ≡ old t.tree
  pub listed : new catalog_tree ≡ old catalog_tree

abbrev copy_edit : ℕ → Trees → List Row → Edit
copy_edit tree db rows = edit_of db (hosts_table tree) [] Chosen 0 rows

-- the rows of a table have the types of its columns, and no column is NULL
typed_at : (schema : Schema) (db : Trees) (other : ℕ) → Has schema (first_hosts_table other) → IsSound schema db → AllByRecursion IsTyped (db other)
typed_at schema db other has sound =
    typed_rows (db other) (all-slice_get (λ (t : Table). AllByRecursion (λ row. passes Datatype schema db t row ≡ true) (db t.tree)) schema.tables has.at (first_hosts_table other) has.got (sound.obeys.rules Datatype))
    (all-slice_get (λ (t : Table). AllByRecursion (λ row. passes NotNull schema db t row ≡ true) (db t.tree)) schema.tables has.at (first_hosts_table other) has.got (sound.obeys.rules NotNull))

all_member : {X : Type 0} (f : X → Bool) (xs : List X) (x : X) → list_all f xs ≡ true → rules.Has xs x → f x ≡ true
all_member f [] x h there = absurd there
all_member f (y ∷ ys) x h (inl same) = ap f same ∙ (and_parts (f y) (list_all f ys) h).0
all_member f (y ∷ ys) x h (inr more) = all_member f ys x (and_parts (f y) (list_all f ys) h).1 more

-- a row that passes the UNIQUE shares its name with no other
unshared : (schema : Schema) (db : Trees) (tree place : ℕ) (row : Row) → rules.Has schema.indexes (automatic (hosts_table tree) 0 (1 ∷ []) place) → passes Unique schema db (hosts_table tree) row ≡ true → list_any (clash row) (db tree) ≡ false
unshared schema db tree place row there h =
    let one = all_member (λ i. not (guards i (hosts_table tree) && clashes i.order i.columns (db tree) row)) schema.indexes (automatic (hosts_table tree) 0 (1 ∷ []) place) h there in
    let is : guards (automatic (hosts_table tree) 0 (1 ∷ []) place) (hosts_table tree) ≡ true = eq-eqb tree tree refl in
    not-true (list_any (clash row) (db tree)) (sym (ap (λ b. not (b && list_any (clash row) (db tree))) is) ∙ one)

all_unshared : (schema : Schema) (db : Trees) (tree place : ℕ) (rows : List Row) → rules.Has schema.indexes (automatic (hosts_table tree) 0 (1 ∷ []) place) → AllByRecursion (λ row. passes Unique schema db (hosts_table tree) row ≡ true) rows
    → AllByRecursion (λ row. list_any (clash row) (db tree) ≡ false) rows
all_unshared schema db tree place [] there h = tt
all_unshared schema db tree place (r ∷ rs) there h = (unshared schema db tree place r there h.0, all_unshared schema db tree place rs there h.1)

apart_at : (schema : Schema) (db : Trees) (tree : ℕ) → Has schema (hosts_table tree) → IsSound schema db → AllByRecursion (λ row. list_any (clash row) (db tree) ≡ false) (db tree)
apart_at schema db tree has sound =
    let guarded = all-slice_get (IsGuarded schema.indexes) schema.tables has.at (hosts_table tree) has.got sound.lists.guarded in
    let index = guarded 0 (1 ∷ []) refl in
    all_unshared schema db tree index.0 (db tree) index.1 (all-slice_get (λ (t : Table). AllByRecursion (λ row. passes Unique schema db t row ≡ true) (db t.tree)) schema.tables has.at (hosts_table tree) has.got (sound.obeys.rules Unique))

module _ (schema : Schema) (h : IsHostSchema Second schema) (other : ℕ) (first : Has schema (first_hosts_table other)) where
  copy_trees : (keys : Keys) (db next : Trees) (rows : List Row) → AllByRecursion IsTyped (db other) → db (tree_in schema hosts_name) ≡ [] → IsPermutation (map copied (db other)) rows → IsSound schema next
      → Applies schema keys db (copy_edit (tree_in schema hosts_name) db rows) next → Copied schema (first_hosts_table other) db next
  copy_trees keys db next rows typed none moved sound a =
      let tree = tree_in schema hosts_name in
      let has = has_hosts schema h in
      let sources = map cast_source rows in
      let news = numbered Chosen (db tree) sources in
      let stored : IsPermutation (map copied (db other)) sources = subst (λ xs. IsPermutation xs sources) (cast_copied (db other) typed) (IsPermutation-map cast_source (map copied (db other)) rows moved) in
      let named : list_any (λ s. not (has_name s)) sources ≡ false = sym (list_any-IsPermutation (λ s. not (has_name s)) (map copied (db other)) sources stored) ∙ named_copied (db other) typed in
      let fit : list_any (λ r. not (is_host r)) news ≡ false = hosts_fit (db tree) sources named a.keyed in
      let ids : AreOwn is_host (next tree) = subst (AreOwn is_host) (sym a.rows) (put_all_own (db tree) news a.fresh fit (subst (AreOwn is_host) (sym none) (none_own is_host))) in
      let placed : IsPermutation news (next tree) = subst (IsPermutation news) (sym a.rows) (subst (λ xs. IsPermutation xs (put_all (db tree) news)) (ap (λ xs. news ++ xs) none ∙ append-nil news) (put_all_moves (db tree) news a.fresh)) in
      let apart : AreApart bytes_cmp (map host_of (next tree)) = hosts_apart (next tree) (own_ids is_host host_whole (next tree) ids) ids.0 (apart_at schema next tree has sound) in
      let shown : map host_of news ≡ map host_of sources = hosts_numbered (db tree) sources in
      let early : map host_of (map copied (db other)) ≡ map host_of (map upgraded_row (db other)) = map_twice copied host_of (db other) ∙ sym (map_twice upgraded_row host_of (db other)) in
      let one : IsPermutation (map host_of (map upgraded_row (db other))) (map host_of sources) = subst (λ xs. IsPermutation xs (map host_of sources)) early (IsPermutation-map host_of (map copied (db other)) sources stored) in
      let two : IsPermutation (map host_of sources) (map host_of (next tree)) = subst (λ xs. IsPermutation xs (map host_of (next tree))) shown (IsPermutation-map host_of news (next tree) placed) in
      let both = IsPermutation-trans (map host_of (map upgraded_row (db other))) (map host_of sources) (map host_of (next tree)) one two in
      record {
        hosts = sym (same_entries nat_list_cmp_total bytes_exact (map host_of (map upgraded_row (db other))) (map host_of (next tree)) both apart);
        ids = ids;
        others = λ t there apart. stays schema keys db next (copy_edit tree db rows) t a there (λ e. trees_apart schema (hosts_at schema) t has there apart (sym e));
        listed = list_stays schema keys db next (copy_edit tree db rows) a has sound;
      }

  pub does_copy : (limit : Option ℕ) (mode : Mode) (at : ℕ) (db : Trees) (text : List ℕ) (tally : Tally) (after : Database) → IsSound schema db → db (tree_in schema hosts_name) ≡ [] → slice_get schema.tables at ≡ Some (hosts_at schema) → IsDatabase after
      → Does limit mode [] (record { schema = schema; trees = db }) text None (Insert at (source.Query (alone (copy_query other)))) (Ok (tally, after)) → (after.schema ≡ schema) × Copied schema (first_hosts_table other) db after.trees
  does_copy limit mode at db text tally after sound none got after_sound does =
      let tree = tree_in schema hosts_name in
      let typed = typed_at schema db other first sound in
      let ran = on_table limit mode [] (record { schema = schema; trees = db }) at (hosts_table tree) (Insert at (source.Query (alone (copy_query other)))) (Ok (tally, after)) got does in
      let done = went ran in
      let now = ap (λ (p : Tally × Database). p.1) (same_value (went (went done.2).2).2) in
      let given = went done.1 in
      let moved = copied_rows other db given.0 (reads_tree schema (first_hosts_table other) first db) (given.1.answer Null) in
      let written = went (went given.2).2 in
      let counted = went written.2 in
      let trees : done.0.trees ≡ written.0 = ap (λ (it : Written). it.trees) (same_value counted.2) ∙ same_value counted.1 in
      let same : after.trees ≡ written.0 = ap (λ (d : Database). d.trees) now ∙ trees in
      let is_same = ap (λ (d : Database). d.schema) now in
      let fits = subst (λ s. IsSound s after.trees) is_same after_sound in
      let applied = subst (Applies schema mode.keys db (copy_edit tree db given.0)) (sym same) (one_change schema _ db written.0 (copy_edit tree db given.0) (tables_of Second schema h).no_other written.1) in
      (is_same, copy_trees mode.keys db after.trees given.0 typed none moved fits applied)
