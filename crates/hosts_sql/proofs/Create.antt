-- What making the three tables and the row of the own state does.
use Rattle.std.proofs.Common.{◌≡◌, ℕ, pos, List, [], ◌∷◌, map, Bool, false, None, Ok, Err, Result, refl, sym, ap, subst, ◌∙◌, arith}
use Rattle.std.specs.FinMap.{empty}
use Rattle.sqlite_value.specs.declared.value.Value.TheVariants.{Null, Int}
use Rattle.sqlite_value.specs.Order.{Row}
use Rattle.sqlite_sql.specs.Term.{Term, lit, col}
use Rattle.sqlite_schema.specs.declared.schema.Keys.{Keys}
use Rattle.sqlite_schema.specs.declared.schema.Schema.{Schema}
use Rattle.sqlite_schema.specs.declared.schema.Table.{Table}
use Rattle.sqlite_schema.specs.declared.command.Source.TheVariants.{Values}
use Rattle.sqlite_schema.specs.declared.command.Command.TheVariants.{Insert, CreateTable}
use Rattle.sqlite_trees.specs.Tree.{Trees, put_row}
use Rattle.sqlite_resolve.specs.declared.compiled.Compiled.{Compiled}
use Rattle.sqlite_resolve.specs.declared.error.CompileError.{CompileError}
use Rattle.sqlite_catalog.specs.Change.{created, next_tree, KeepsRows}
use Rattle.sqlite_catalog.specs.Listing.{IsSound}
use Rattle.sqlite_rules.specs.Edit.{edit_of, edited, Applies}
use Rattle.sqlite_rules.specs.declared.error.Rowids.TheVariants.{Chosen}
use Rattle.sqlite_tied.specs.Compute.{everything}
use Rattle.sqlite.specs.Does.{Tally, lacks_sequence}
use Rattle.sqlite.specs.Effect.{Database, IsDatabase}
use Rattle.sqlite.specs.State.{State, Executes, Writes}
use Rattle.sqlite.specs.Listing.{understood}
use Rattle.sqlite.specs.Given.{IsPlain}
use Rattle.sqlite.proofs.Callers.{statement_of, runs_as, one_step}
use Rattle.hosts_sql.specs.Maps.{no_rows, with_own}
use Rattle.hosts_sql.specs.Tables.{own_name, hosts_name, watches_name, own_text, hosts_text, watches_text, first_own_text, own_table, hosts_table, watches_table, own_checks, no_schema}
use Rattle.hosts_sql.specs.Placing.{has_addresses}
use Rattle.hosts_sql.specs.Schemas.{table_in, tree_in, IsHostSchema}
use Rattle.hosts_sql.specs.Shown.{number_at, shown}
use Rattle.sql_transactions.specs.Work.{command_in, Ran}
use Rattle.sql_transactions.proofs.Ran.{same_command}
use Rattle.hosts_sql.specs.Making.{Defines, Created, MakesTable, text_in}
use Rattle.hosts_sql.specs.Wrote.{HasOwnRow, IsWhole}
use Rattle.hosts_sql.specs.declared.tables.TablesVersion.TheVariants.{Second}
use Rattle.hosts_sql.proofs.Listings.{shows_version, shows_none}
use Rattle.hosts_sql.specs.Own.{is_host, is_watched, AreOwn}
use Rattle.hosts_sql.proofs.Texts.{own_is, hosts_is, watches_is}
use Rattle.hosts_sql.proofs.Monitor.{cast_null, cast_number, inserted, went, same_value}
use Rattle.hosts_sql.proofs.Rows.{Makes, version_is, did_at}

-- the schema once the first table is made, and the second
abbrev pub one_table : Schema
one_table = created no_schema (own_table 0 own_checks)

abbrev pub two_tables : Schema
two_tables = created one_table (hosts_table 0)

pub own_defines : Defines no_schema own_text (own_table 0 own_checks)
unfolding understood everything
own_defines = record { command = refl; statement = refl; plain = (refl, refl); defined = own_is; uncounted = refl }

pub hosts_defines : Defines one_table hosts_text (hosts_table 0)
unfolding understood everything
hosts_defines = record { command = refl; statement = refl; plain = (refl, refl); defined = hosts_is; uncounted = refl }

pub watches_defines : Defines two_tables watches_text (watches_table 0)
unfolding understood everything
watches_defines = record { command = refl; statement = refl; plain = (refl, refl); defined = watches_is; uncounted = refl }

-- all three, as a new file has them
abbrev pub three_tables : Schema
three_tables = created two_tables (watches_table 0)

pub all_tables : IsHostSchema Second three_tables
unfolding everything
all_tables = ((((refl, (refl, refl)), (refl, (refl, refl))), (refl, tt)), ((refl, (refl, refl)), refl))

same_text : (sql : List ℕ) (r : Result Compiled CompileError) → statement_of sql r ≡ text_in sql r
same_text sql (Ok c) = refl
same_text sql (Err e) = refl

pub create_step : (schema : Schema) (text : List ℕ) (table : Table) (a b : State) (count : ℕ) → Defines schema text table → a.now.schema ≡ schema → Executes text [] a b (Ok count) → Created schema table a.now b.now
create_step schema text table a b count d has h =
    let means = understood schema text in
    let w = subst (λ t. Writes a b None CreateTable t [] count) (same_text text means ∙ d.statement) (runs_as text [] a b schema has CreateTable (same_command means ∙ d.command) d.plain count h) in
    let all = went w.changed in
    let first = went all.1 in
    let made = first.1 in
    let both : Ok made.table ≡ Ok table = sym made.defined ∙ d.defined in
    let same : made.table ≡ table = cc in
    let after : first.0.schema ≡ created schema table = made.is ∙ ap (λ s. created s made.table) has ∙ ap (created schema) same in
    let plain : lacks_sequence first.0.schema ≡ false = ap lacks_sequence after ∙ d.uncounted in
    let now : b.now ≡ first.0 = ap (λ (p : Tally × Database). p.1) (same_value all.2) ∙ same_value (rw plain at first.2) in
    record {
      makes = ap (λ (x : Database). x.schema) now ∙ after;
      empty = ap (λ (x : Database). x.trees (next_tree schema)) now ∙ subst (λ s. first.0.trees (next_tree s) ≡ []) has made.empty;
      sound = w.sound;
      others = subst (λ (x : Database). KeepsRows schema.tables a.now.trees x.trees) (sym now) (subst (λ s. KeepsRows s.tables a.now.trees first.0.trees) has made.others);
    }

-- ---- the row of the own state

abbrev own_terms : List Term
own_terms = lit (Int (pos 1)) ∷ lit Null ∷ lit (Int (pos 2)) ∷ col 0 0 ∷ []

own_row_is : (command_in (understood (three_tables) first_own_text) ≡ Insert 0 (Values own_terms 4)) × IsPlain (understood (three_tables) first_own_text)
unfolding understood everything
own_row_is = (refl, (refl, refl))

abbrev pub own_row : ℕ → Row
own_row own = Int (pos 1) ∷ Null ∷ Int (pos 2) ∷ Int (pos own) ∷ []

pub record OwnIsSet (own : ℕ) (old new : Trees) : Type 0 where
  pub rows : new 0 ≡ put_row (own_row own) (old 0)
  pub hosts : new 1 ≡ old 1
  pub watches : new 3 ≡ old 3

own_news : (db : Trees) (own : ℕ) → (edit_of db (own_table 0 own_checks) [] Chosen 0 (own_row own ∷ [])).news ≡ own_row own ∷ []
own_news db own = rw (cast_null, cast_number (pos 1), cast_number (pos 2), cast_number (pos own))

own_set : (db next : Trees) (keys : Keys) (own : ℕ) → Applies (three_tables) keys db (edit_of db (own_table 0 own_checks) [] Chosen 0 (own_row own ∷ [])) next → OwnIsSet own db next
own_set db next keys own a = record {
  rows = a.rows ∙ ap (λ all. edited db (record { table = own_table 0 own_checks; gone = []; news = all })) (own_news db own);
  hosts = a.tables.1.0 (λ e. omega (arith, e));
  watches = a.tables.1.1.0 (λ e. omega (arith, e));
}

own_step : (own : ℕ) (a b : Database) → a.schema ≡ three_tables → Ran first_own_text (Int (pos own) ∷ []) a b → (b.schema ≡ three_tables) × OwnIsSet own a.trees b.trees × IsDatabase b
own_step own a b has ran =
    let given_params : Row = Int (pos own) ∷ [] in
    let it = did_at (three_tables) first_own_text given_params (Insert 0 (Values own_terms 4)) a b has tt own_row_is.0 own_row_is.1 ran in
    let done = inserted it.1 it.2 given_params (three_tables) (own_table 0 own_checks) 0 (Values own_terms 4) a.trees it.3 b it.4 in
    let applied = one_step (three_tables) _ a.trees b.trees (edit_of a.trees (own_table 0 own_checks) [] Chosen 0 done.1) refl done.3 in
    let exact = subst (λ all. Applies (three_tables) it.2.keys a.trees (edit_of a.trees (own_table 0 own_checks) [] Chosen 0 all) b.trees) done.2.1 applied in
    (done.0, own_set a.trees b.trees it.2.keys own exact, it.5)

-- ---- before and after

pub shown_fresh : (d : Database) → d.schema ≡ no_schema → IsDatabase d → shown d.trees ≡ no_rows
shown_fresh d is sound = shows_none d sound.lists.listed.tables (λ name. ap (λ s. table_in s name) is)

-- the tables are made and hold no row
record AreMade (d : Database) : Type 0 where
  is : d.schema ≡ three_tables
  own : d.trees 0 ≡ []
  hosts : d.trees 1 ≡ []
  watches : d.trees 3 ≡ []

made_all : (a b c d : Database) → a.schema ≡ no_schema → MakesTable own_text a b → MakesTable hosts_text b c → MakesTable watches_text c d → AreMade d
made_all a b c d has one two three =
    let first = one no_schema (own_table 0 own_checks) has own_defines in
    let second = two one_table (hosts_table 0) first.makes hosts_defines in
    let third = three two_tables (watches_table 0) second.makes watches_defines in
    record { is = third.makes; own = third.others.0 ∙ second.others.0 ∙ first.empty; hosts = third.others.1.0 ∙ second.empty; watches = third.empty }

pub none_own : (fits : Row → Bool) → AreOwn fits []
none_own fits = (refl, λ id. omega arith)

shown_first : (own : ℕ) (a b : Database) → AreMade a → Ran first_own_text (Int (pos own) ∷ []) a b → IsWhole Second b × (shown b.trees ≡ record no_rows { own = own })
unfolding everything
shown_first own a b made ran =
    let set = own_step own a b made.is ran in
    let rows = set.1.rows ∙ ap (put_row (own_row own)) made.own in
    let hosts_none : b.trees 1 ≡ [] = set.1.hosts ∙ made.hosts in
    let watches_none : b.trees 3 ≡ [] = set.1.watches ∙ made.watches in
    let own_is : HasOwnRow 2 (b.trees 0) = subst (HasOwnRow 2) (sym rows) refl in
    let after : IsWhole Second b =
    subst (λ s. (IsHostSchema Second s × HasOwnRow 2 (b.trees (tree_in s own_name))) × (AreOwn is_host (b.trees (tree_in s hosts_name)) × AreOwn is_watched (b.trees (tree_in s watches_name)))) (sym set.0)
    ((all_tables, own_is), (subst (AreOwn is_host) (sym hosts_none) (none_own is_host), subst (AreOwn is_watched) (sym watches_none) (none_own is_watched))) in
    let as_made : Database = record { schema = three_tables; trees = b.trees } in
    let listed = shows_version Second as_made (subst (λ s. IsSound s b.trees) set.0 set.2).lists.listed.tables all_tables (version_is 2 (b.trees 0) own_is) in
    let first = ap (λ all. number_at all 3) rows in
    let hosts = ap (λ all. Rattle.std.specs.FinMap.from_entries (map Rattle.hosts_sql.specs.Shown.host_of all)) hosts_none in
    let watches = ap (λ all. Rattle.std.specs.FinMap.from_entries (map Rattle.hosts_sql.specs.Shown.watch_of all)) watches_none in
    (after, listed ∙ (λ i. record { own = first i; hosts = hosts i; watches = watches i }))

-- three texts that make the tables, and one for the row of the own state
abbrev pub MakesAll : ℕ → Database → Database → Type 0
MakesAll own from to = (made : Database) × ((two : Database) × ((one : Database) × MakesTable own_text from one × MakesTable hosts_text one two) × MakesTable watches_text two made) × Ran first_own_text (Int (pos own) ∷ []) made to

pub unlocated : has_addresses three_tables ≡ false
unfolding everything
unlocated = refl

-- the last statement leaves the three tables
pub started_tables : (own : ℕ) (a d : Database) → a.schema ≡ no_schema → MakesAll own a d → (d.schema ≡ three_tables) × IsDatabase d
started_tables own a d fresh work =
    let three = work.1 in
    let two = three.1 in
    let set = own_step own work.0 d (made_all a two.0 three.0 work.0 fresh two.1 two.2 three.2).is work.2 in
    (set.0, set.2)

pub started : (own : ℕ) (a d : Database) → a.schema ≡ no_schema → IsDatabase a → MakesAll own a d → Makes (with_own own) a d
started own a d fresh sound work =
    let three = work.1 in
    let two = three.1 in
    let first = shown_first own work.0 d (made_all a two.0 three.0 work.0 fresh two.1 two.2 three.2) work.2 in
    record { whole = first.0; rows = first.1 ∙ ap (with_own own) (sym (shown_fresh a fresh sound)) }
