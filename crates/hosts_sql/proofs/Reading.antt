-- What the queries show.
use Rattle.std.proofs.Common.{not, ◌≡◌, ℕ, pos, List, [], ◌∷◌, map, refl, sym, ap, subst, ◌∙◌}
use Rattle.std.specs.List.Sorted.{IsPermutation}
use Rattle.std.proofs.lemmas.List.Sorted.{IsPermutation-map, IsPermutation-sym, list_any-IsPermutation}
use Rattle.sqlite_value.specs.declared.value.Value.TheVariants.{Null, Int}
use Rattle.sqlite_value.specs.Order.{Row, column}
use Rattle.sqlite_value.specs.declared.keys.Key.{Key}
use Rattle.sqlite_trees.specs.Tree.{Trees}
use Rattle.sqlite_sql.specs.Term.{Term, Env, eval_all}
use Rattle.sqlite_sql.specs.Query.{IsAnswer, output, Output}
use Rattle.sqlite_sql.specs.Program.{overlay}
use Rattle.sqlite_schema.specs.declared.command.Command.TheVariants.{Select}
use Rattle.sqlite.specs.Effect.{Database, IsDatabase, Answers}
use Rattle.sqlite.specs.Listing.{understood}
use Rattle.sqlite.specs.State.{State, Shown}
use Rattle.sqlite.proofs.Callers.{IsPlain, reads_as, one_permutation}
use Rattle.hosts_sql.specs.Tables.{own_name, hosts_name, watches_name, first_hosts_name, read_own_text, read_hosts_text, read_first_hosts_text, read_watches_text}
use Rattle.hosts_sql.specs.Schemas.{tree_in, checks_in, IsHostSchema}
use Rattle.hosts_sql.specs.Wrote.{number, rows_of, hosts_of, hosts_text, own_shown, HasOwnRow}
use Rattle.hosts_sql.specs.declared.tables.TablesVersion.{TablesVersion}
use Rattle.hosts_sql.specs.declared.tables.TablesVersion.TheVariants.{First, Second}
use Rattle.sqlite_schema.specs.declared.schema.Schema.{Schema}
use Rattle.sqlite_schema.specs.declared.schema.Table.{Table}
use Rattle.std.specs.List.{flat_map}
use Rattle.std.specs.Cmp.Lexicographic.{nat_list_cmp_total}
use Rattle.std.specs.FinMap.{from_entries, slice_cmp-IsAntisymmetric, nat_cmp-IsAntisymmetric}
use Rattle.sql_transactions.proofs.Ran.{same_command}
use Rattle.hosts_sql.specs.Maps.{key_cmp}
use Rattle.definitions.specs.Bytes.{bytes_cmp}
use Rattle.hosts_sql.specs.Shown.{host_of, watch_of, number_at, upgraded_row, shown, shown_rows}
use Rattle.hosts_sql.specs.Reading.{host_shown, watch_shown, AreApart, ShowsOwn, Tells}
use Rattle.hosts_sql.specs.Own.{is_host, is_watched, has_host_numbers, AreOwn, AllFit}
use Rattle.hosts_sql.proofs.OwnIds.{own_moved, own_of_map, fit_of_map}
use Rattle.hosts_sql.proofs.Permuted.{same_entries}
use Rattle.hosts_sql.proofs.Places.{Has, own_at, hosts_at, watches_at, first_at, tables_of, has_hosts, has_first, reads_tree}
use Rattle.hosts_sql.proofs.Listings.{shows_version}
use Rattle.hosts_sql.proofs.Means.{Is}
use Rattle.hosts_sql.proofs.Texts.{query, alone, by_rowid, own_terms, hosts_terms, first_hosts_terms, watches_terms, own_named, hosts_named, first_named, watches_named, read_own_is, read_hosts_is, read_first_hosts_is, read_watches_is}
use Rattle.hosts_sql.proofs.Rows.{version_is}
use Rattle.hosts_sql.proofs.Watch.{watch_exact, watch_total}
use Rattle.std.proofs.lemmas.List.Concat.{flat_map_single}

-- ---- what the texts mean

own_means : (version : TablesVersion) (schema : Schema) → IsHostSchema version schema → Is schema read_own_text (Select (alone (query (tree_in schema own_name) [] own_terms [])) (own_named 0).1)
own_means version schema is = read_own_is schema (tree_in schema own_name) (checks_in schema own_name) (tables_of version schema is).own

watches_mean : (version : TablesVersion) (schema : Schema) → IsHostSchema version schema → Is schema read_watches_text (Select (alone (query (tree_in schema watches_name) [] watches_terms by_rowid)) (watches_named 0).1)
watches_mean version schema is = read_watches_is schema (tree_in schema watches_name) (tables_of version schema is).watches

first_hosts_mean : (schema : Schema) → IsHostSchema First schema → Is schema read_first_hosts_text (Select (alone (query (tree_in schema first_hosts_name) [] first_hosts_terms by_rowid)) (first_named 0).1)
first_hosts_mean schema is = read_first_hosts_is schema (tree_in schema first_hosts_name) (has_first schema is)

hosts_mean : (schema : Schema) → IsHostSchema Second schema → Is schema read_hosts_text (Select (alone (query (tree_in schema hosts_name) [] hosts_terms by_rowid)) (hosts_named 0).1)
hosts_mean schema is = read_hosts_is schema (tree_in schema hosts_name) (has_hosts schema is)

pub own_plain_at : (version : TablesVersion) (db : Database) → IsHostSchema version db.schema → IsPlain (understood db.schema read_own_text)
own_plain_at version db is = (own_means version db.schema is).plain

pub hosts_plain_at : (version : TablesVersion) (db : Database) → IsHostSchema version db.schema → IsPlain (understood db.schema (hosts_text version))
hosts_plain_at First db is = (first_hosts_mean db.schema is).plain
hosts_plain_at Second db is = (hosts_mean db.schema is).plain

pub watches_plain_at : (version : TablesVersion) (db : Database) → IsHostSchema version db.schema → IsPlain (understood db.schema read_watches_text)
watches_plain_at version db is = (watches_mean version db.schema is).plain

pub tells : (sql : List ℕ) (db : Database) (mid new : State) (rows : List Row) → mid.now ≡ db → IsPlain (understood db.schema sql) → Shown sql [] mid new rows → Tells sql db rows
tells sql db mid new rows at plain h q names is unlisted =
    subst (λ (d : Database). Answers d q [] rows) at (reads_as sql [] mid new db.schema (ap (λ (d : Database). d.schema) at) (Select q names) (same_command (understood db.schema sql) ∙ is) plain unlisted rows h)

-- the same of a text and rows that are equal to these
pub Tells-alike : (db : Database) (sql text : List ℕ) (rows found : List Row) → sql ≡ text → found ≡ rows → Tells sql db rows → Tells text db found
Tells-alike db sql text rows found e i told = subst (λ t. Tells t db found) e (subst (Tells sql db) (sym i) told)

pub map_twice : {A B C : Type 0} (f : A → B) (g : B → C) (xs : List A) → map g (map f xs) ≡ map (λ x. g (f x)) xs
map_twice f g [] = refl
map_twice f g (x ∷ xs) = ap (λ ys. g (f x) ∷ ys) (map_twice f g xs)

abbrev pub env_of : Row → Env
env_of row = [] ∷ row ∷ []

pub answer_is : (table : ℕ) (terms : List Term) (order : List (Term × Key)) (db : Trees) (rows : List Row) (a : IsAnswer (query table [] terms order) (overlay db []) [] rows) → a.staged ≡ map env_of (db table) → IsPermutation (map (λ row. eval_all terms (env_of row)) (db table)) rows
answer_is table terms order db rows a staged =
    let show : Row → Row = λ row. eval_all terms (env_of row) in
    let shown : map (λ (o : Output). o.1) a.kept ≡ map show (db table) =
    ap (map (λ (o : Output). o.1)) (a.distinct ∙ ap (map (output (query table [] terms order))) staged) ∙ ap (map (λ (o : Output). o.1)) (map_twice env_of (output (query table [] terms order)) (db table))
    ∙ map_twice (λ r. output (query table [] terms order) (env_of r)) (λ (o : Output). o.1) (db table) in
    let moved = IsPermutation-map (λ (o : Output). o.1) a.kept a.ordered a.same in
    subst (λ out. IsPermutation (map show (db table)) out) (sym a.shown) (subst (λ xs. IsPermutation xs (map (λ (o : Output). o.1) a.ordered)) shown moved)

-- all rows of a table, where a text shows them
all_rows : (db : Database) (sql : List ℕ) (t : Table) (terms : List Term) (order : List (Term × Key)) (names : List (List ℕ)) (rows : List Row) → Has db.schema t → Is db.schema sql (Select (alone (query t.tree [] terms order)) names) → Tells sql db rows
    → IsPermutation (map (λ row. eval_all terms (env_of row)) (db.trees t.tree)) rows
all_rows db sql t terms order names rows has means h =
    let a = (h _ _ means.command means.unlisted).answer Null in
    answer_is t.tree terms order db.trees rows a (a.grouped ∙ ap (flat_map (λ row. env_of row ∷ [])) (reads_tree db.schema t has db.trees) ∙ flat_map_single env_of (db.trees t.tree))

pub reads_own : (version : TablesVersion) (db : Database) (rows : List Row) → IsHostSchema version db.schema → Tells read_own_text db rows → IsPermutation (map own_shown (rows_of own_name db)) rows
reads_own version db rows is h = all_rows db read_own_text (own_at db.schema) own_terms [] (own_named 0).1 rows (tables_of version db.schema is).own (own_means version db.schema is) h

pub reads_hosts : (version : TablesVersion) (db : Database) (rows : List Row) → IsHostSchema version db.schema → Tells (hosts_text version) db rows → IsPermutation (map host_shown (hosts_of version db)) rows
reads_hosts First db rows is h =
    let all = all_rows db read_first_hosts_text (first_at db.schema) first_hosts_terms by_rowid (first_named 0).1 rows (has_first db.schema is) (first_hosts_mean db.schema is) h in
    subst (λ xs. IsPermutation xs rows) (sym (map_twice upgraded_row host_shown (rows_of first_hosts_name db))) all
reads_hosts Second db rows is h = all_rows db read_hosts_text (hosts_at db.schema) hosts_terms by_rowid (hosts_named 0).1 rows (has_hosts db.schema is) (hosts_mean db.schema is) h

pub reads_watches : (version : TablesVersion) (db : Database) (rows : List Row) → IsHostSchema version db.schema → Tells read_watches_text db rows → IsPermutation (map watch_shown (rows_of watches_name db)) rows
reads_watches version db rows is h = all_rows db read_watches_text (watches_at db.schema) watches_terms by_rowid (watches_named 0).1 rows (tables_of version db.schema is).watches (watches_mean version db.schema is) h

-- the one row, as the query shows it
own_alone : (version : ℕ) (rows : List Row) (row : Row) (own : ℕ) → map own_shown rows ≡ row ∷ [] → column row 0 ≡ Int (pos 1) → column row 1 ≡ Int (pos version) → column row 2 ≡ Int (pos own) → HasOwnRow version rows × (number_at rows 3 ≡ own)
own_alone version [] row own one id is state = absurd cc
own_alone version (r ∷ []) row own one id is state =
    let same : own_shown r ≡ row = cc in
    let first : column r 0 ≡ Int (pos 1) = ap (λ x. column x 0) same ∙ id in
    let second : column r 2 ≡ Int (pos version) = ap (λ x. column x 1) same ∙ is in
    let third : column r 3 ≡ Int (pos own) = ap (λ x. column x 2) same ∙ state in
    (rw (first, second, third), rw third)
own_alone version (r ∷ next ∷ rows) row own one id is state = absurd cc

pub own_from : (version : TablesVersion) (db : Database) (rows : List Row) (own : ℕ) → IsHostSchema version db.schema → Tells read_own_text db rows → ShowsOwn (number version) rows own → HasOwnRow (number version) (rows_of own_name db) × (number_at (rows_of own_name db) 3 ≡ own)
own_from version db rows own is h shows =
    let back = IsPermutation-sym (map own_shown (rows_of own_name db)) rows (reads_own version db rows is h) in
    let one = one_permutation shows.0 (map own_shown (rows_of own_name db)) (subst (λ xs. IsPermutation xs (map own_shown (rows_of own_name db))) shows.1 back) in
    own_alone (number version) (rows_of own_name db) shows.0 own one shows.2 shows.3 shows.4

pub hosts_from : (version : TablesVersion) (db : Database) (rows : List Row) → IsHostSchema version db.schema → Tells (hosts_text version) db rows → AreApart bytes_cmp (map host_of rows) → from_entries {R = bytes_cmp} (map host_of rows) ≡ from_entries (map host_of (hosts_of version db))
hosts_from version db rows is h apart =
    let hosts = hosts_of version db in
    let moved = IsPermutation-map host_of (map host_shown hosts) rows (reads_hosts version db rows is h) in
    let all = subst (λ es. IsPermutation es (map host_of rows)) (map_twice host_shown host_of hosts) moved in
    sym (same_entries nat_list_cmp_total (slice_cmp-IsAntisymmetric nat_cmp-IsAntisymmetric) (map host_of hosts) (map host_of rows) all apart)

pub watches_from : (version : TablesVersion) (db : Database) (rows : List Row) → IsHostSchema version db.schema → Tells read_watches_text db rows → AreApart key_cmp (map watch_of rows) → from_entries {R = key_cmp} (map watch_of rows) ≡ from_entries (map watch_of (rows_of watches_name db))
watches_from version db rows is h apart =
    let moved = IsPermutation-map watch_of (map watch_shown (rows_of watches_name db)) rows (reads_watches version db rows is h) in
    let all = subst (λ es. IsPermutation es (map watch_of rows)) (map_twice watch_shown watch_of (rows_of watches_name db)) moved in
    sym (same_entries watch_total watch_exact (map watch_of (rows_of watches_name db)) (map watch_of rows) all apart)

pub shows_hosts : (version : TablesVersion) (db : Database) → IsHostSchema version db.schema → IsDatabase db → HasOwnRow (number version) (rows_of own_name db) → shown db.trees ≡ shown_rows (rows_of own_name db) (hosts_of version db) (rows_of watches_name db)
shows_hosts version db is sound own = shows_version version db sound.lists.listed.tables is (version_is (number version) (rows_of own_name db) own)

-- the rows of the tables, as they were read
pub all_shown : (version : TablesVersion) (db : Database) → IsHostSchema version db.schema → IsDatabase db → HasOwnRow (number version) (rows_of own_name db) → (own : ℕ) → number_at (rows_of own_name db) 3 ≡ own
    → shown db.trees ≡ record { own = own; hosts = from_entries (map host_of (hosts_of version db)); watches = from_entries (map watch_of (rows_of watches_name db)) }
all_shown version db is sound row own state = shows_hosts version db is sound row ∙ (λ i. record { own = state i; hosts = from_entries (map host_of (hosts_of version db)); watches = from_entries (map watch_of (rows_of watches_name db)) })

pub own_hosts_from : (version : TablesVersion) (db : Database) (rows : List Row) → IsHostSchema version db.schema → Tells (hosts_text version) db rows → AreOwn is_host rows → AreOwn is_host (hosts_of version db)
own_hosts_from version db rows is h own =
    let hosts = hosts_of version db in own_of_map is_host host_shown (λ r. refl) (λ r. refl) hosts (own_moved is_host rows (map host_shown hosts) (IsPermutation-sym (map host_shown hosts) rows (reads_hosts version db rows is h)) own)

pub own_watches_from : (version : TablesVersion) (db : Database) (rows : List Row) → IsHostSchema version db.schema → Tells read_watches_text db rows → AreOwn is_watched rows → AreOwn is_watched (rows_of watches_name db)
own_watches_from version db rows is h own =
    own_of_map is_watched watch_shown (λ r. refl) (λ r. refl) (rows_of watches_name db) (own_moved is_watched rows (map watch_shown (rows_of watches_name db)) (IsPermutation-sym (map watch_shown (rows_of watches_name db)) rows (reads_watches version db rows is h)) own)

pub fitting_hosts_from : (version : TablesVersion) (db : Database) (rows : List Row) → IsHostSchema version db.schema → Tells (hosts_text version) db rows → AllFit has_host_numbers rows → AllFit has_host_numbers (hosts_of version db)
fitting_hosts_from version db rows is h fit =
    let hosts = hosts_of version db in fit_of_map has_host_numbers host_shown (λ r. refl) hosts (list_any-IsPermutation (λ row. not (has_host_numbers row)) (map host_shown hosts) rows (reads_hosts version db rows is h) ∙ fit)
