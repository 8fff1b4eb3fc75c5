-- Where a table lies, and what a statement leaves of the others.
use Rattle.std.proofs.Common.{◌≡◌, ◌≢◌, ◌<◌, ℕ, zero, suc, ◌+◌, Bool, true, false, cond, not, ◌&&◌, ◌==◌, List, [], ◌∷◌, map, filter, length, get_or, slice_get, Some, None, Option, option_map, Ok, refl, sym, ap, subst, ◌∙◌, arith}
use Rattle.std.specs.Prelude.{nat_lt, nat_le, ◌^◌, find}
use Rattle.std.specs.List.{AllByRecursion, AllZip, list_all, flat_map, filter_map, position_from}
use Rattle.std.proofs.lemmas.Bool.{and_parts, ltb-true, lt-ltb, lt-leb, eqb-true}
use Rattle.sqlite_value.specs.Order.{Row}
use Rattle.sqlite_sql.specs.Program.{overlay}
use Rattle.sqlite_schema.specs.declared.schema.Keys.{Keys}
use Rattle.sqlite_schema.specs.declared.schema.Table.{Table}
use Rattle.sqlite_schema.specs.declared.schema.Index.{Index}
use Rattle.sqlite_schema.specs.declared.schema.Schema.{Schema}
use Rattle.sqlite_schema.specs.declared.schema.Reference.{Reference}
use Rattle.sqlite_schema.specs.declared.command.Command.{Command}
use Rattle.sqlite_schema.specs.Names.{same_name, table_named}
use Rattle.sqlite_typing.specs.Types.{table_classes, row_classes}
use Rattle.sqlite_trees.specs.Tree.{Trees}
use Rattle.sqlite_trees.specs.Objects.{catalog_tree}
use Rattle.sqlite_trees.proofs.ListLemmas.{all-slice_get}
use Rattle.sqlite_catalog.specs.Listing.{IsSound, IsIndexRow, is_index_row}
use Rattle.sqlite_rules.specs.Edit.{Edit, Applies}
use Rattle.sqlite_rules.specs.Action.{Work, Writes}
use Rattle.sqlite.specs.declared.run.Mode.{Mode}
use Rattle.sqlite.specs.Does.{Tally, AtPlace, OnTable, OnRows}
use Rattle.sqlite.specs.Rows.{Outcome}
use Rattle.sqlite.specs.Effect.{Database}
use Rattle.sqlite.proofs.Callers.{one_step}
use Rattle.hosts_sql.specs.Tables.{own_name, hosts_name, watches_name, first_hosts_name, own_table, hosts_table, watches_table, first_hosts_table}
use Rattle.hosts_sql.specs.Schemas.{HasTable, IsHostSchema, tree_in, checks_in, is_expected, has_no_other}
use Rattle.hosts_sql.specs.declared.tables.TablesVersion.{TablesVersion}
use Rattle.hosts_sql.specs.declared.tables.TablesVersion.TheVariants.{First, Second}

-- ---- the tables of a schema, in their trees

abbrev pub own_at : Schema → Table
own_at schema = own_table (tree_in schema own_name) (checks_in schema own_name)

abbrev pub hosts_at : Schema → Table
hosts_at schema = hosts_table (tree_in schema hosts_name)

abbrev pub watches_at : Schema → Table
watches_at schema = watches_table (tree_in schema watches_name)

abbrev pub first_at : Schema → Table
first_at schema = first_hosts_table (tree_in schema first_hosts_name)

-- ---- a table by its name

-- no place is before the one that the search begins at
no_earlier : {X : Type 0} (p : X → Bool) (xs : List X) (n k : ℕ) → position_from p n xs ≡ Some k → k < n → ⊥
no_earlier p [] n k h low = absurd cc
no_earlier p (z ∷ zs) n k h low = step (p z) (λ e. no_earlier p zs (n + 1) k e (omega (arith, low))) h
  where
    step : (b : Bool) → (position_from p (n + 1) zs ≡ Some k → ⊥) → cond b (Some n) (position_from p (n + 1) zs) ≡ Some k → ⊥
    step true more h = let e : n ≡ k = cc in omega (arith, e, low)
    step false more h = more h

-- the first that passes stands somewhere
pub found_at : {X : Type 0} (p : X → Bool) (xs : List X) (x : X) (n : ℕ) → find p xs ≡ Some x → (i : ℕ) × (position_from p n xs ≡ Some (n + i)) × (slice_get xs i ≡ Some x)
found_at p [] x n h = absurd cc
found_at p (y ∷ ys) x n h = go (p y) (found_at p ys x (n + 1)) h
  where
    go : (b : Bool) → (find p ys ≡ Some x → (i : ℕ) × (position_from p (n + 1) ys ≡ Some (n + 1 + i)) × (slice_get ys i ≡ Some x)) → cond b (Some y) (find p ys) ≡ Some x
        → (i : ℕ) × (cond b (Some n) (position_from p (n + 1) ys) ≡ Some (n + i)) × (slice_get (y ∷ ys) i ≡ Some x)
    go true more h = let e : n ≡ n + 0 = omega arith in (0, ap Some e, h)
    go false more h = let it = more h in let e : n + 1 + it.0 ≡ n + suc it.0 = omega arith in (suc it.0, it.1 ∙ ap Some e, it.2)

-- and is found where it stands
pub at_found : {X : Type 0} (p : X → Bool) (xs : List X) (x : X) (n i : ℕ) → position_from p n xs ≡ Some (n + i) → slice_get xs i ≡ Some x → find p xs ≡ Some x
at_found p [] x n i h g = absurd cc
at_found p (y ∷ ys) x n i h g = go (p y) i (λ k. at_found p ys x (n + 1) k) h g
  where
    go : (b : Bool) (i : ℕ) → ((k : ℕ) → position_from p (n + 1) ys ≡ Some (n + 1 + k) → slice_get ys k ≡ Some x → find p ys ≡ Some x)
        → cond b (Some n) (position_from p (n + 1) ys) ≡ Some (n + i) → slice_get (y ∷ ys) i ≡ Some x → cond b (Some y) (find p ys) ≡ Some x
    go true zero more h g = g
    go true (suc i) more h g = let e : n ≡ n + suc i = cc in absurd (omega (arith, e))
    go false zero more h g = absurd (no_earlier p ys (n + 1) (n + 0) h (omega arith))
    go false (suc i) more h g = let e : n + suc i ≡ n + 1 + i = omega arith in more i (h ∙ ap Some e) g

-- the table has its name, its place and its tree
pub record Has (schema : Schema) (t : Table) : Type 0 where
  pub at : ℕ
  pub named : table_named schema t.name ≡ Some at
  pub got : slice_get schema.tables at ≡ Some t
  pub alone : find (λ u. u.tree == t.tree) schema.tables ≡ Some t
  pub low : t.tree < 65536

pub has : (schema : Schema) (t : Table) → HasTable schema t → Has schema t
has schema t h =
    let it = found_at (λ u. same_name u.name t.name) schema.tables t 0 h.0 in
    let e : 0 + it.0 ≡ it.0 = omega arith in
    record { at = it.0; named = it.1 ∙ ap Some e; got = it.2; alone = at_found (λ u. u.tree == t.tree) schema.tables t 0 it.0 (h.1.0 ∙ it.1) it.2; low = ltb-true t.tree 65536 h.1.1 }

-- two tables lie in two trees
pub trees_apart : (schema : Schema) (s t : Table) → Has schema s → Has schema t → s.name ≢ t.name → s.tree ≢ t.tree
trees_apart schema s t a b other same =
    let both : Some s ≡ Some t = sym a.alone ∙ ap (λ n. find (λ (u : Table). u.tree == n) schema.tables) same ∙ b.alone in
    let is : s ≡ t = cc in
    other (ap (λ (u : Table). u.name) is)

module _ (schema : Schema) (t : Table) (h : Has schema t) where
  pub low_tree : nat_lt t.tree (2 ^ 31) ≡ true
  low_tree = lt-ltb t.tree 2147483648 (omega (arith, h.low))

  stored : nat_le (2 ^ 31) t.tree ≡ false
  stored = lt-leb 2147483648 t.tree (omega (arith, h.low))

  pub classes_are : table_classes schema [] t.tree ≡ Some (row_classes t)
  classes_are = rw (stored, h.alone)

  -- a query with no part of its own reads the tree
  pub reads_tree : (db : Trees) → overlay db [] t.tree ≡ db t.tree
  reads_tree db = rw stored

  pub no_catalog : catalog_tree ≢ t.tree
  no_catalog e = omega (arith, e, h.low)

-- ---- a statement on a table

pub on_table : (limit : Option ℕ) (mode : Mode) (params : Row) (db : Database) (at : ℕ) (table : Table) (k : Command) (out : Outcome (Tally × Database)) → slice_get db.schema.tables at ≡ Some table
    → OnTable limit mode params db at (λ task. OnRows task mode None k db.trees) out → OnRows (record { limit = limit; keys = mode.keys; schema = db.schema; table = table; params = params }) mode None k db.trees out
on_table limit mode params db at table k out is h =
    subst (λ found. AtPlace (λ (t : Table). OnRows (record { limit = limit; keys = mode.keys; schema = db.schema; table = t; params = params }) mode None k db.trees) found out) is h

pub none_of : {X : Type 0} (xs : List X) → (length xs == 0) ≡ true → xs ≡ []
none_of [] h = refl
none_of (x ∷ xs) h = let e = eqb-true (length (x ∷ xs)) 0 h in absurd (omega (arith, e))

-- no table refers to another
none_act : (f : Table → Reference → Option Work) (tables : List Table) → list_all is_expected tables ≡ true → flat_map (λ child. filter_map (f child) child.references) tables ≡ []
none_act f [] h = refl
none_act f (t ∷ tables) h =
    let parts = and_parts (is_expected t) (list_all is_expected tables) h in
    let free = (and_parts (length t.references == 0) (not t.is_counted) (and_parts _ ((length t.references == 0) && not t.is_counted) parts.0).1).0 in
    ap (λ all. Rattle.std.proofs.Common.◌++◌ (filter_map (f t) all) (flat_map (λ child. filter_map (f child) child.references) tables)) (none_of t.references free) ∙ none_act f tables parts.1

pub expected : (schema : Schema) → has_no_other schema ≡ true → list_all is_expected schema.tables ≡ true
expected schema h = (and_parts (list_all is_expected schema.tables) _ h).0

-- no foreign key acts
pub one_change : (schema : Schema) (keys : Keys) (db next : Trees) (edit : Edit) → has_no_other schema ≡ true → Writes schema keys db edit (Ok next) → Applies schema keys db edit next
one_change schema keys db next edit free h = one_step schema keys db next edit (none_act _ schema.tables (expected schema free)) h

-- another table is as it was
pub stays : (schema : Schema) (keys : Keys) (db next : Trees) (edit : Edit) (t : Table) → Applies schema keys db edit next → Has schema t → t.tree ≢ edit.table.tree → next t.tree ≡ db t.tree
stays schema keys db next edit t a h apart = all-slice_get (λ (u : Table). u.tree ≢ edit.table.tree → next u.tree ≡ db u.tree) schema.tables h.at t h.got a.tables apart

low_indexes : (tables : List Table) (rows : List Row) (indexes : List Index) → AllZip (IsIndexRow tables) rows indexes → AllByRecursion (λ i. i.tree ≢ catalog_tree) indexes
low_indexes tables [] [] h = tt
low_indexes tables [] (i ∷ indexes) h = absurd h
low_indexes tables (r ∷ rows) [] h = absurd h
low_indexes tables (r ∷ rows) (i ∷ indexes) h = ((λ e. omega (arith, e, h.0.described.low)), low_indexes tables rows indexes h.1)

-- and so is the list of objects
pub list_stays : (schema : Schema) (keys : Keys) (db next : Trees) (edit : Edit) → Applies schema keys db edit next → Has schema edit.table → IsSound schema next → next catalog_tree ≡ db catalog_tree
list_stays schema keys db next edit a h sound =
    a.others catalog_tree (no_catalog schema edit.table h) (low_indexes schema.tables (filter is_index_row (next catalog_tree)) schema.indexes sound.lists.listed.indexes)

-- ---- the tables of a version

-- the tables that both versions have, and no other acts
pub record HasTables (schema : Schema) (version : TablesVersion) : Type 0 where
  pub own : Has schema (own_at schema)
  pub watches : Has schema (watches_at schema)
  pub no_other : has_no_other schema ≡ true

pub tables_of : (version : TablesVersion) (schema : Schema) → IsHostSchema version schema → HasTables schema version
tables_of First schema h = record { own = has schema (own_at schema) h.0.0.0; watches = has schema (watches_at schema) h.0.0.1; no_other = h.0.1.0 }
tables_of Second schema h = record { own = has schema (own_at schema) h.0.0.0; watches = has schema (watches_at schema) h.0.0.1; no_other = h.0.1.0 }

pub has_hosts : (schema : Schema) → IsHostSchema Second schema → Has schema (hosts_at schema)
has_hosts schema h = has schema (hosts_at schema) h.1.0

pub has_first : (schema : Schema) → IsHostSchema First schema → Has schema (first_at schema)
has_first schema h = has schema (first_at schema) h.1.0

-- ---- their names differ

first_byte : (a b : List ℕ) → a ≡ b → get_or a 0 0 ≡ get_or b 0 0
first_byte a b e = ap (λ (name : List ℕ). get_or name 0 0) e

pub own_not_hosts : own_name ≢ hosts_name
own_not_hosts e = let f = first_byte own_name hosts_name e in omega (arith, f)

pub own_not_watches : own_name ≢ watches_name
own_not_watches e = let f = first_byte own_name watches_name e in omega (arith, f)

pub own_not_first : own_name ≢ first_hosts_name
own_not_first e = let f = first_byte own_name first_hosts_name e in omega (arith, f)

pub hosts_not_watches : hosts_name ≢ watches_name
hosts_not_watches e = let f = first_byte hosts_name watches_name e in omega (arith, f)

pub first_not_watches : first_hosts_name ≢ watches_name
first_not_watches e = let f = first_byte first_hosts_name watches_name e in omega (arith, f)

pub hosts_not_first : hosts_name ≢ first_hosts_name
hosts_not_first e = let f : length hosts_name ≡ length first_hosts_name = ap length e in omega (arith, f)
