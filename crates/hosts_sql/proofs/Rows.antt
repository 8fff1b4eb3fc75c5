-- What the statements do to the rows that the trees stand for.
use Rattle.std.proofs.Common.{◌≡◌, ℕ, pos, List, [], ◌∷◌, map, filter, None, Option, Ok, refl, sym, ap, subst, ◌∙◌}
use Rattle.std.specs.List.{AllZip}
use Rattle.std.specs.Cmp.Lexicographic.{nat_list_cmp_total}
use Rattle.std.specs.FinMap.{find, get, insert, get-from_entries, from_entries, slice_cmp-IsAntisymmetric, nat_cmp-IsAntisymmetric}
use Rattle.sqlite_value.specs.declared.value.Value.TheVariants.{Int}
use Rattle.sqlite_value.specs.Order.{Row, column}
use Rattle.sqlite_trees.specs.Tree.{Trees}
use Rattle.sqlite_trees.specs.Objects.{catalog_tree, number_in}
use Rattle.sqlite_schema.specs.declared.schema.Schema.{Schema}
use Rattle.sqlite_schema.specs.declared.command.Command.{Command}
use Rattle.sqlite_schema.specs.declared.command.Source.TheVariants.{Values}
use Rattle.sqlite_schema.specs.declared.command.Command.TheVariants.{Insert}
use Rattle.sqlite_catalog.specs.Listing.{IsSound, IsTableRow, is_table_row}
use Rattle.sqlite.specs.declared.run.Mode.{Mode}
use Rattle.sqlite.specs.Effect.{Database, IsDatabase}
use Rattle.sqlite.specs.Does.{Tally, Does}
use Rattle.sqlite.specs.Given.{IsPlain}
use Rattle.sqlite.specs.Listing.{understood}
use Rattle.definitions.specs.Bytes.{bytes_cmp}
use Rattle.hosts_sql.specs.Maps.{Host, WatchKey, Rows, with_host, with_watch}
use Rattle.hosts_sql.specs.Own.{is_host, is_watched, AreOwn}
use Rattle.sql_transactions.specs.Work.{command_in}
use Rattle.hosts_sql.specs.Tables.{own_name, hosts_name, watches_name, monitor_text, watch_text}
use Rattle.hosts_sql.specs.Schemas.{tree_in, IsHostSchema}
use Rattle.hosts_sql.specs.Shown.{host_of, watch_of, number_at, shown}
use Rattle.sql_transactions.specs.Work.{IsRowWrite, Ran}
use Rattle.hosts_sql.specs.Wrote.{own_shown, HasOwnRow, IsWhole}
use Rattle.hosts_sql.specs.declared.tables.TablesVersion.TheVariants.{Second}
use Rattle.hosts_sql.proofs.Places.{tables_of, has_hosts}
use Rattle.hosts_sql.proofs.Listings.{Lists, shown_in, shows_version}
use Rattle.hosts_sql.proofs.OwnIds.{own_put}
use Rattle.hosts_sql.proofs.Edits.{monitor_is, watch_is}
use Rattle.hosts_sql.proofs.PutLemmas.{put_is_insert}
use Rattle.hosts_sql.proofs.Monitor.{Grown, params, terms, does_monitor}
use Rattle.hosts_sql.specs.Given.{watch_params}
use Rattle.hosts_sql.proofs.Watch.{watch_terms, does_watch, grown_watches}

-- what statements make of a database with the tables
pub record Makes (change : Rows → Rows) (old new : Database) : Type 0 where
  pub whole : IsWhole Second new
  pub rows : shown new.trees ≡ change (shown old.trees)

pub makes_then : (f g : Rows → Rows) (a b c : Database) → Makes f a b → Makes g b c → Makes (λ r. g (f r)) a c
makes_then f g a b c one two = record { whole = two.whole; rows = two.rows ∙ ap g one.rows }

pub version_is : (version : ℕ) (rows : List Row) → HasOwnRow version rows → number_at rows 2 ≡ version
version_is version [] one = absurd cc
version_is version (r ∷ []) one =
    let same : own_shown r ≡ Int (pos 1) ∷ Int (pos version) ∷ Int (pos (number_at (r ∷ []) 3)) ∷ [] = cc in
    ap (λ x. number_in (column x 1)) same
version_is version (r ∷ next ∷ rows) one = absurd cc

-- a database with the tables, after a change of its rows alone
pub whole_after : (from to : Database) → IsWhole Second from → to.schema ≡ from.schema → HasOwnRow 2 (to.trees (tree_in from.schema own_name)) → AreOwn is_host (to.trees (tree_in from.schema hosts_name))
    → AreOwn is_watched (to.trees (tree_in from.schema watches_name)) → IsWhole Second to
whole_after from to whole same own hosts watches =
    subst (λ s. (IsHostSchema Second s × HasOwnRow 2 (to.trees (tree_in s own_name))) × (AreOwn is_host (to.trees (tree_in s hosts_name)) × AreOwn is_watched (to.trees (tree_in s watches_name)))) (sym same)
    ((whole.0.0, own), (hosts, watches))

-- the list of objects stayed, so both databases show their tables
pub record ShowTables (schema : Schema) (old new : Database) : Type 0 where
  pub early : shown old.trees ≡ shown_in schema old.trees
  pub late : shown new.trees ≡ shown_in schema new.trees

pub show_tables : (old new : Database) → IsHostSchema Second old.schema → new.schema ≡ old.schema → IsDatabase new → new.trees catalog_tree ≡ old.trees catalog_tree → HasOwnRow 2 (old.trees (tree_in old.schema own_name)) → HasOwnRow 2 (new.trees (tree_in old.schema own_name)) → ShowTables old.schema old new
show_tables old new h is sound same before after =
    let listed : Lists old.schema new.trees = (subst (λ x. IsSound x new.trees) is sound).lists.listed.tables in
    let as_old : Database = record { schema = old.schema; trees = new.trees } in
    record {
      early = shows_version Second old (subst (λ objects. AllZip IsTableRow (filter is_table_row objects) old.schema.tables) same listed) h (version_is 2 (old.trees (tree_in old.schema own_name)) before);
      late = shows_version Second as_old listed h (version_is 2 (new.trees (tree_in old.schema own_name)) after);
    }

-- a text that ran, where the schema is known
pub did_at : (schema : Schema) (sql : List ℕ) (given : Row) (k : Command) (from to : Database) → from.schema ≡ schema → IsRowWrite k → command_in (understood schema sql) ≡ k → IsPlain (understood schema sql) → Ran sql given from to
    → (text : List ℕ) × (limit : Option ℕ) × (mode : Mode) × (tally : Tally) × Does limit mode given (record { schema = schema; trees = from.trees }) text None k (Ok (tally, to)) × IsDatabase to
did_at schema sql given k from to is w means plain ran =
    let it = ran k w (ap (λ s. command_in (understood s sql)) is ∙ means) (subst (λ s. IsPlain (understood s sql)) (sym is) plain) in
    (it.0, it.1, it.2, it.3, subst (λ schema. Does it.1 it.2 given (record { schema = schema; trees = from.trees }) it.0 None k (Ok (it.3, to))) is it.4, it.5)

none_before : (schema : Schema) (db : Trees) (name : List ℕ) → get (shown_in schema db).hosts name ≡ None → find bytes_cmp name (map host_of (db (tree_in schema hosts_name))) ≡ None
none_before schema db name none = sym (get-from_entries nat_list_cmp_total (map host_of (db (tree_in schema hosts_name))) name) ∙ none

-- one more row is one more host
pub grown_shows : (schema : Schema) (name : List ℕ) (host : Host) (row : Row) (old new : Trees) → Grown schema row old new → host_of row ≡ (name, host)
    → get (shown_in schema old).hosts name ≡ None → shown_in schema new ≡ with_host name host (shown_in schema old)
grown_shows schema name host row old new g is none =
    let tree = tree_in schema hosts_name in
    let key = ap (λ (p : List ℕ × Host). p.0) is in
    let absent = subst (λ k. find bytes_cmp k (map host_of (old tree)) ≡ None) (sym key) (none_before schema old name none) in
    let put = put_is_insert nat_list_cmp_total (slice_cmp-IsAntisymmetric nat_cmp-IsAntisymmetric) host_of (old tree) row g.fresh absent in
    let hosts = ap (λ rows. from_entries (map host_of rows)) g.rows ∙ put ∙ ap (λ (p : List ℕ × Host). insert (shown_in schema old).hosts p.0 p.1) is in
    let own = ap (λ rows. number_at rows 3) g.own in
    let watches = ap (λ rows. from_entries (map watch_of rows)) g.watches in
    λ i. record { own = own i; hosts = hosts i; watches = watches i }

pub made_host : (name : List ℕ) (host : Host) (from to : Database) → IsWhole Second from → get (shown from.trees).hosts name ≡ None → Ran monitor_text (params name host) from to → Makes (with_host name host) from to
made_host name host from to whole none ran =
    let schema = from.schema in
    let tree = tree_in schema hosts_name in
    let means = monitor_is schema tree (has_hosts schema whole.0.0) in
    let it = did_at schema monitor_text (params name host) (Insert means.0 (Values terms 5)) from to refl tt means.2.command means.2.plain ran in
    let done = does_monitor schema whole.0.0 it.1 it.2 means.0 name host from.trees it.0 it.3 to means.1 it.5 it.4 in
    let own = subst (HasOwnRow 2) (sym done.1.own) whole.0.1 in
    let after = whole_after from to whole done.0 own (subst (AreOwn is_host) (sym done.1.rows) (own_put is_host _ (from.trees tree) refl done.1.fresh whole.1.0)) (subst (AreOwn is_watched) (sym done.1.watches) whole.1.1) in
    let shows = show_tables from to whole.0.0 done.0 it.5 done.1.listed whole.0.1 own in
    let none_early = subst (λ (r : Rows). get r.hosts name ≡ None) shows.early none in
    record { whole = after; rows = shows.late ∙ grown_shows schema name host _ from.trees to.trees done.1 refl none_early ∙ ap (with_host name host) (sym shows.early) }

pub made_watch : (k : WatchKey) (private : List ℕ) (from to : Database) → IsWhole Second from → get (shown from.trees).watches k ≡ None → Ran watch_text (watch_params k private) from to → Makes (with_watch k private) from to
made_watch k private from to whole none ran =
    let schema = from.schema in
    let tree = tree_in schema watches_name in
    let means = watch_is schema tree (tables_of Second schema whole.0.0).watches in
    let it = did_at schema watch_text (watch_params k private) (Insert means.0 (Values watch_terms 7)) from to refl tt means.2.command means.2.plain ran in
    let done = does_watch schema whole.0.0 it.1 it.2 means.0 k private from.trees it.0 it.3 to means.1 it.5 it.4 in
    let own = subst (HasOwnRow 2) (sym done.1.own) whole.0.1 in
    let after = whole_after from to whole done.0 own (subst (AreOwn is_host) (sym done.1.hosts) whole.1.0) (subst (AreOwn is_watched) (sym done.1.rows) (own_put is_watched _ (from.trees tree) refl done.1.fresh whole.1.1)) in
    let shows = show_tables from to whole.0.0 done.0 it.5 done.1.listed whole.0.1 own in
    let none_early = subst (λ (r : Rows). get r.watches k ≡ None) shows.early none in
    record { whole = after; rows = shows.late ∙ grown_watches schema k private _ from.trees to.trees done.1 refl none_early ∙ ap (with_watch k private) (sym shows.early) }
