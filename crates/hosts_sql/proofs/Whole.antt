-- What the transaction makes of a file of schema 1.
use Rattle.std.proofs.Common.{◌≡◌, ℕ, pos, not, List, [], ◌∷◌, map, filter, refl, sym, ap, subst, ◌∙◌}
use Rattle.std.specs.List.Sorted.{IsPermutation}
use Rattle.std.specs.FinMap.{from_entries}
use Rattle.definitions.specs.Bytes.{bytes_cmp}
use Rattle.sqlite_value.specs.declared.value.Value.TheVariants.{Int}
use Rattle.sqlite_value.specs.Order.{Row, column}
use Rattle.sqlite_sql.specs.Query.{IsAnswer, output, page, Output}
use Rattle.sqlite_sql.specs.Program.{overlay}
use Rattle.sqlite_schema.specs.declared.schema.Schema.{Schema}
use Rattle.sqlite_schema.specs.declared.schema.Table.{Table}
use Rattle.sqlite_schema.specs.Names.{same_name}
use Rattle.sqlite_trees.specs.Tree.{Trees}
use Rattle.sqlite_trees.proofs.ListLemmas.{all-slice_get}
use Rattle.sqlite_catalog.specs.Listing.{IsSound}
use Rattle.sqlite.specs.Effect.{Database, IsDatabase}
use Rattle.sqlite.proofs.Callers.{one_permutation}
use Rattle.sql_transactions.specs.Work.{RanThree}
use Rattle.hosts_sql.specs.Maps.{with_own}
use Rattle.hosts_sql.specs.Tables.{own_name, hosts_name, watches_name, first_hosts_name, hosts_table, hosts_text, copy_hosts_text, empty_hosts_text, second_own_text}
use Rattle.hosts_sql.specs.Schemas.{tree_in, checks_in, IsHostSchema}
use Rattle.hosts_sql.specs.Shown.{host_of, watch_of, number_at, upgraded_row, shown}
use Rattle.hosts_sql.specs.Own.{is_host, is_watched, AreOwn}
use Rattle.hosts_sql.specs.Making.{Defines, MakesTable}
use Rattle.hosts_sql.specs.Wrote.{rows_of, HasOwnRow, IsWhole}
use Rattle.hosts_sql.specs.declared.tables.TablesVersion.TheVariants.{First, Second}
use Rattle.hosts_sql.proofs.Delete.{passes}
use Rattle.hosts_sql.proofs.Fewer.{does_delete, host_whole}
use Rattle.hosts_sql.proofs.OwnIds.{own_ids, own_of_map}
use Rattle.hosts_sql.proofs.Places.{Has, own_at, hosts_at, watches_at, first_at, tables_of, has_hosts, has_first, own_not_hosts, own_not_watches, own_not_first, hosts_not_watches, first_not_watches, hosts_not_first, reads_tree}
use Rattle.hosts_sql.proofs.Added.{added, added_is, hosts_tree_is, own_kept, watches_kept, first_kept, first_tree_kept}
use Rattle.hosts_sql.proofs.More.{low_tree_of, none_at, no_views, uncounted}
use Rattle.hosts_sql.proofs.Listings.{shown_in, shown_in_first, shows_version}
use Rattle.hosts_sql.proofs.Reading.{shows_hosts}
use Rattle.hosts_sql.proofs.Rows.{Makes, version_is, did_at}
use Rattle.hosts_sql.proofs.Update.{IsOwn, picked, first_row, does_put}
use Rattle.hosts_sql.proofs.Copied.{does_copy}
use Rattle.hosts_sql.proofs.Texts.{query, version_terms, hosts_is}
use Rattle.hosts_sql.proofs.Edits.{empty_is, second_own_is}
use Rattle.hosts_sql.proofs.Meant.{copy_is, hosts_command, hosts_statement}

-- ---- the new table

hosts_defines : (schema : Schema) → IsHostSchema First schema → Defines schema hosts_text (hosts_table 0)
hosts_defines schema h =
    let views = no_views schema h.0.1.0 in
    let untaken = none_at (λ t. same_name t.name hosts_name) schema.tables 0 h.1.1.0 in
    let means = hosts_command schema views untaken h.1.1.1 in
    record { command = means.command; statement = hosts_statement schema views untaken h.1.1.1; plain = means.plain; defined = hosts_is; uncounted = uncounted schema (hosts_table 0) refl h.0.1.0 }

-- it is there and holds no row, and the others are as they were
record HasHosts (old new : Database) : Type 0 where
  tables : new.schema ≡ added old.schema
  is : IsHostSchema Second (added old.schema)
  none : new.trees (tree_in (added old.schema) hosts_name) ≡ []
  others : (t : Table) → Has old.schema t → new.trees t.tree ≡ old.trees t.tree
  sound : IsSound (added old.schema) new.trees

made_hosts : (a b : Database) → IsHostSchema First a.schema → MakesTable hosts_text a b → HasHosts a b
made_hosts a b h makes =
    let schema = a.schema in
    let made = makes schema (hosts_table 0) refl (hosts_defines schema h) in
    let sound = subst (λ s. IsSound s b.trees) made.makes made.sound in
    record {
      tables = made.makes;
      is = added_is schema h (low_tree_of schema (hosts_table 0) b.trees sound);
      none = ap b.trees (hosts_tree_is schema h.1.1.0) ∙ made.empty;
      others = λ t there. all-slice_get (λ (u : Table). b.trees u.tree ≡ a.trees u.tree) schema.tables there.at t there.got made.others;
      sound = sound;
    }

-- ---- the old table loses its rows

none_left : (rows : List Row) → filter (λ r. not (passes [] [] r)) rows ≡ []
none_left [] = refl
none_left (r ∷ rs) = none_left rs

-- ---- the version and the own state

picks_second : (tree : ℕ) (db : Trees) (own : ℕ) (row : Row) (rows : List Row) → overlay db [] tree ≡ db tree → db tree ≡ row ∷ [] → column row 0 ≡ Int (pos 1) → IsAnswer (query tree [] version_terms []) (overlay db []) (Int (pos own) ∷ []) rows → rows ≡ picked 2 own ∷ []
picks_second tree db own row rows base one is a =
    let q = query tree [] version_terms [] in
    let params : Row = Int (pos own) ∷ [] in
    let staged : a.staged ≡ (params ∷ row ∷ []) ∷ [] = a.grouped ∙ rw (base, one) in
    let o : Output = ([], picked 2 own) in
    let same : output q (params ∷ row ∷ []) ≡ o = rw is in
    let kept : a.kept ≡ o ∷ [] = a.distinct ∙ ap (map (output q)) staged ∙ ap (λ (p : Output). p ∷ []) same in
    let ordered = one_permutation o a.ordered (subst (λ k. IsPermutation k a.ordered) kept a.same) in
    a.shown ∙ ap (λ xs. page q params (map (λ (p : Output). p.1) xs)) ordered

-- ---- all of it

-- the file is one of schema 2, and shows the hosts with the full quota
pub record IsUpgraded (own : ℕ) (old new : Database) : Type 0 where
  pub whole : IsWhole Second new
  pub rows : shown new.trees ≡ with_own own (shown old.trees)
  pub emptied : rows_of first_hosts_name new ≡ []

pub upgraded_makes : (own : ℕ) (old new : Database) → IsUpgraded own old new → Makes (with_own own) old new
upgraded_makes own old new u = record { whole = u.whole; rows = u.rows }

upgraded : (own : ℕ) (old made new : Database) → IsWhole First old → IsDatabase old → HasHosts old made → RanThree copy_hosts_text [] empty_hosts_text [] second_own_text (Int (pos own) ∷ []) made new → IsUpgraded own old new
upgraded own old made new whole sound has ran =
    let early_schema = old.schema in
    let schema = added early_schema in
    let h = has.is in
    let tables = tables_of Second schema h in
    let hosts = has_hosts schema h in
    let first_table = first_at early_schema in
    let first = Rattle.hosts_sql.proofs.Places.has schema first_table (first_kept early_schema whole.0.0) in
    let tree = tree_in schema hosts_name in
    let own_tree = tree_in schema own_name in
    let copied = ran.1.0 in
    let emptied = ran.0 in
    let copy = copy_is schema tree first_table.tree hosts first in
    let one = did_at schema copy_hosts_text [] _ made copied has.tables tt copy.command copy.plain ran.1.1 in
    let copies = does_copy schema h first_table.tree first one.1 one.2 hosts.at made.trees one.0 one.3 copied has.sound has.none hosts.got one.5 one.4 in
    let first_rows : copied.trees first_table.tree ≡ old.trees first_table.tree = copies.1.others first_table first hosts_not_first ∙ has.others first_table (has_first early_schema whole.0.0) in
    let ids : AreOwn is_host (old.trees first_table.tree) = own_of_map is_host upgraded_row (λ r. refl) (λ r. refl) (old.trees first_table.tree) whole.1.0 in
    let empty = empty_is schema first_table.tree first in
    let two = did_at schema empty_hosts_text [] _ copied emptied copies.0 tt empty.2.command empty.2.plain ran.1.2 in
    let empties = does_delete schema first_table two.1 two.2 [] [] copied.trees empty.0 two.0 two.3 emptied tables.no_other first empty.1 (own_ids is_host host_whole (copied.trees first_table.tree) (subst (AreOwn is_host) (sym first_rows) ids)) two.5 two.4 in
    let puts_text = second_own_is schema own_tree (checks_in schema own_name) tables.own in
    let three = did_at schema second_own_text (Int (pos own) ∷ []) _ emptied new empties.0 tt puts_text.2.command puts_text.2.plain ran.2 in
    let own_kept_tree = own_kept early_schema whole.0.0 in
    let own_row : emptied.trees own_tree ≡ rows_of own_name old =
    empties.1.others (own_at schema) tables.own (λ e. own_not_first (sym e)) ∙ copies.1.others (own_at schema) tables.own (λ e. own_not_hosts (sym e)) ∙ ap made.trees own_kept_tree ∙ has.others (own_at early_schema) (tables_of First early_schema whole.0.0).own in
    let row = first_row {P = IsOwn 1} (emptied.trees own_tree) _ (subst (HasOwnRow 1) (sym own_row) whole.0.1) (λ row same. (ap (λ r. column r 0) same, ap (λ r. column r 1) same)) in
    let base = reads_tree schema (own_at schema) tables.own emptied.trees in
    let puts = does_put schema h three.1 three.2 puts_text.0 2 own row.0 (query own_tree [] version_terms []) emptied.trees three.0 three.3 new puts_text.1 three.5 row.1 row.2.0 (λ rows. picks_second own_tree emptied.trees own row.0 rows base row.1 row.2.0) three.4 in
    let watches_kept_tree = watches_kept early_schema whole.0.0 in
    let watches : new.trees (tree_in schema watches_name) ≡ rows_of watches_name old =
    puts.1.others (watches_at schema) tables.watches own_not_watches ∙ empties.1.others (watches_at schema) tables.watches first_not_watches ∙ copies.1.others (watches_at schema) tables.watches hosts_not_watches ∙ ap made.trees watches_kept_tree
    ∙ has.others (watches_at early_schema) (tables_of First early_schema whole.0.0).watches in
    let second : new.trees tree ≡ copied.trees tree = puts.1.others (hosts_at schema) hosts own_not_hosts ∙ empties.1.others (hosts_at schema) hosts (λ e. hosts_not_first (sym e)) in
    let as_made : Database = record { schema = schema; trees = new.trees } in
    let own_is : HasOwnRow 2 (new.trees own_tree) = subst (HasOwnRow 2) (sym puts.1.rows) refl in
    let made_whole : IsWhole Second as_made = ((h, own_is), (subst (AreOwn is_host) (sym second) copies.1.ids, subst (AreOwn is_watched) (sym watches) whole.1.1)) in
    let same_schema : new.schema ≡ schema = puts.0 in
    let after : IsWhole Second new = subst (λ s. IsWhole Second (record { schema = s; trees = new.trees })) (sym same_schema) made_whole in
    let late = shows_version Second as_made (subst (λ s. IsSound s new.trees) same_schema three.5).lists.listed.tables h (version_is 2 (new.trees own_tree) own_is) in
    let early = shows_hosts First old whole.0.0 sound whole.0.1 in
    let state = ap (λ rows. number_at rows 3) puts.1.rows in
    let hosts_same = ap (λ rows. from_entries {R = bytes_cmp} (map host_of rows)) second ∙ copies.1.hosts ∙ ap (λ rows. from_entries (map host_of (map upgraded_row rows))) (has.others first_table (has_first early_schema whole.0.0)) in
    let watched = ap (λ rows. from_entries (map watch_of rows)) watches in
    let same : shown_in schema new.trees ≡ with_own own (shown_in_first early_schema old.trees) = λ i. record { own = state i; hosts = hosts_same i; watches = watched i } in
    let gone : new.trees first_table.tree ≡ [] = puts.1.others first_table first own_not_first ∙ empties.1.rows ∙ none_left (copied.trees first_table.tree) in
    record { whole = after; rows = late ∙ same ∙ ap (with_own own) (sym early); emptied = ap (λ s. new.trees (tree_in s first_hosts_name)) same_schema ∙ ap new.trees (first_tree_kept early_schema whole.0.0) ∙ gone }

-- a text that makes the table of the hosts with quotas, and three that move them
abbrev pub MovesGiven : Row → Database → Database → Type 0
MovesGiven given from to = (made : Database) × MakesTable hosts_text from made × RanThree copy_hosts_text [] empty_hosts_text [] second_own_text given made to

abbrev pub Moves : ℕ → Database → Database → Type 0
Moves own = MovesGiven (Int (pos own) ∷ [])

pub moved : (own : ℕ) (old new : Database) → IsWhole First old → IsDatabase old → Moves own old new → IsUpgraded own old new
moved own old new whole sound work = upgraded own old work.0 new whole sound (made_hosts old work.0 whole.0.0 work.1) work.2
