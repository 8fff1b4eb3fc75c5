-- A schema to which a table is added.
use Rattle.std.proofs.Common.{◌≡◌, ◌≢◌, inl, inr, ◌<◌, ℕ, suc, ◌+◌, Bool, true, false, cond, not, ◌&&◌, ◌||◌, ◌==◌, List, [], ◌∷◌, ◌++◌, length, take, map, get_or, codes, Some, None, Option, option_map, refl, sym, ap, subst, ◌∙◌, arith}
use Rattle.std.specs.Prelude.{unwrap_or, find}
use Rattle.std.specs.Char.{to_ascii_lowercase}
use Rattle.std.specs.Option.{option_or}
use Rattle.std.specs.List.{AllByRecursion, AllZip, list_all, list_any, position_from}
use Rattle.std.proofs.lemmas.Bool.{true≢false, and_parts, lt-ltb, eqb-true}
use Rattle.std.proofs.lemmas.List.Folds.{find-append, list_all-append, list_any-append}
use Rattle.sqlite_value.specs.Order.{Row}
use Rattle.sqlite_schema.specs.declared.schema.Schema.{Schema}
use Rattle.sqlite_schema.specs.declared.schema.Table.{Table}
use Rattle.sqlite_schema.specs.declared.schema.Index.{Index}
use Rattle.sqlite_schema.specs.Names.{same_name, index_named}
use Rattle.sqlite_catalog.specs.Change.{created, next_tree, automatics, is_reserved}
use Rattle.sqlite_catalog.specs.Listing.{IsSound, IsTableRow}
use Rattle.sqlite_catalog.proofs.SoundLemmas.{lowered}
use Rattle.sqlite_catalog.proofs.StepLemmas.{table_below, same_itself}
use Rattle.sqlite_rules.specs.Lists as rules
use Rattle.sqlite.specs.Does.{lacks_sequence}
use Rattle.hosts_sql.specs.Tables.{addresses_name, addresses_table}
use Rattle.hosts_sql.specs.Schemas.{HasTable, IsOfAddresses, TakesAddresses, table_in, tree_in, checks_in, is_expected, has_no_other}
use Rattle.hosts_sql.proofs.Places.{expected}

-- ---- a list with one element more

pub position_kept : {X : Type 0} (p : X → Bool) (xs ys : List X) (n k : ℕ) → position_from p n xs ≡ Some k → position_from p n (xs ++ ys) ≡ Some k
position_kept p [] ys n k h = absurd cc
position_kept p (x ∷ xs) ys n k h = go (p x) (position_kept p xs ys (n + 1) k) h
  where
    go : (b : Bool) → (position_from p (n + 1) xs ≡ Some k → position_from p (n + 1) (xs ++ ys) ≡ Some k) → cond b (Some n) (position_from p (n + 1) xs) ≡ Some k → cond b (Some n) (position_from p (n + 1) (xs ++ ys)) ≡ Some k
    go true more h = h
    go false more h = more h

pub position_new : {X : Type 0} (p : X → Bool) (xs : List X) (y : X) (n : ℕ) → position_from p n xs ≡ None → p y ≡ true → position_from p n (xs ++ y ∷ []) ≡ Some (n + length xs)
position_new p [] y n h passes = let e : n ≡ n + 0 = omega arith in ap (λ b. cond b (Some n) None) passes ∙ ap Some e
position_new p (x ∷ xs) y n h passes = go (p x) (position_new p xs y (n + 1)) h
  where
    go : (b : Bool) → (position_from p (n + 1) xs ≡ None → p y ≡ true → position_from p (n + 1) (xs ++ y ∷ []) ≡ Some (n + 1 + length xs)) → cond b (Some n) (position_from p (n + 1) xs) ≡ None
        → cond b (Some n) (position_from p (n + 1) (xs ++ y ∷ [])) ≡ Some (n + suc (length xs))
    go true more h = absurd cc
    go false more h = let e : n + 1 + length xs ≡ n + suc (length xs) = omega arith in more h passes ∙ ap Some e

-- none is found, so none stands anywhere
pub none_at : {X : Type 0} (p : X → Bool) (xs : List X) (n : ℕ) → find p xs ≡ None → position_from p n xs ≡ None
none_at p [] n h = refl
none_at p (x ∷ xs) n h = go (p x) (none_at p xs (n + 1)) h
  where
    go : (b : Bool) → (find p xs ≡ None → position_from p (n + 1) xs ≡ None) → cond b (Some x) (find p xs) ≡ None → cond b (Some n) (position_from p (n + 1) xs) ≡ None
    go true more h = absurd cc
    go false more h = more h

-- a list with more that don't pass, in which none passed
pub none_more : {X : Type 0} (p : X → Bool) (xs ys : List X) → find p xs ≡ None → find p ys ≡ None → find p (xs ++ ys) ≡ None
none_more p xs ys h k = find-append p xs ys ∙ ap (λ o. option_or o (find p ys)) h ∙ k

-- no table lies in a tree above all
pub none_above : (tables : List Table) (tree n : ℕ) → ((t : Table) → rules.Has tables t → t.tree < tree) → position_from (λ u. u.tree == tree) n tables ≡ None
none_above [] tree n h = refl
none_above (t ∷ tables) tree n h = go (t.tree == tree) refl (none_above tables tree (n + 1) (λ u there. h u (inr there)))
  where
    go : (b : Bool) → (t.tree == tree) ≡ b → position_from (λ u. u.tree == tree) (n + 1) tables ≡ None → cond b (Some n) (position_from (λ u. u.tree == tree) (n + 1) tables) ≡ None
    go true e more = let same = eqb-true t.tree tree e in absurd (omega (arith, same, h t (inl refl)))
    go false e more = more

pub low_last : (rows : List Row) (tables : List Table) (t : Table) → AllZip IsTableRow rows (tables ++ t ∷ []) → t.tree < 65536
low_last [] [] t h = absurd h
low_last [] (u ∷ tables) t h = absurd h
low_last (r ∷ rows) [] t h = h.0.described.low
low_last (r ∷ rows) (u ∷ tables) t h = low_last rows tables t h.1

pub none_counted : (tables : List Table) → list_all is_expected tables ≡ true → list_any (λ t. t.is_counted) tables ≡ false
none_counted [] h = refl
none_counted (t ∷ tables) h =
    let parts = and_parts (is_expected t) (list_all is_expected tables) h in
    let free = (and_parts (length t.references == 0) (not t.is_counted) (and_parts _ ((length t.references == 0) && not t.is_counted) parts.0).1).1 in
    go t.is_counted free (none_counted tables parts.1)
  where
    go : (b : Bool) → not b ≡ true → list_any (λ u. u.is_counted) tables ≡ false → (b || list_any (λ u. u.is_counted) tables) ≡ false
    go true e more = absurd (true≢false (sym e))
    go false e more = more

-- ---- the schema with the table

abbrev pub new_table : Schema → Table → Table
new_table schema fresh = record fresh { tree = next_tree schema }

itself : (n : ℕ) → (n == n) ≡ true
itself n = Rattle.std.proofs.lemmas.Bool.eq-eqb n n refl

module _ (schema : Schema) (fresh : Table) where
  pub kept_table : (name : List ℕ) (t : Table) → table_in schema name ≡ Some t → table_in (created schema fresh) name ≡ Some t
  kept_table name t is = find-append (λ u. same_name u.name name) schema.tables (new_table schema fresh ∷ []) ∙ ap (λ o. option_or o (find (λ u. same_name u.name name) (new_table schema fresh ∷ []))) is

  -- a table that was not there, and is not this one, is not there
  pub kept_none : (name : List ℕ) → table_in schema name ≡ None → same_name fresh.name name ≡ false → table_in (created schema fresh) name ≡ None
  kept_none name is other = none_more (λ u. same_name u.name name) schema.tables (new_table schema fresh ∷ []) is (ap (λ b. cond b (Some (new_table schema fresh)) None) other)

  pub kept_tree : (name : List ℕ) (t : Table) → table_in schema name ≡ Some t → tree_in (created schema fresh) name ≡ tree_in schema name
  kept_tree name t is = ap (λ o. unwrap_or (option_map (λ (u : Table). u.tree) o) 0) (kept_table name t is ∙ sym is)

  pub kept_checks : (name : List ℕ) (t : Table) → table_in schema name ≡ Some t → checks_in (created schema fresh) name ≡ checks_in schema name
  kept_checks name t is = ap (λ o. unwrap_or (option_map (λ (u : Table). u.checks) o) []) (kept_table name t is ∙ sym is)

  -- a table that was there is there
  pub kept : (t : Table) → HasTable schema t → HasTable (created schema fresh) t
  kept t h =
      let at = Rattle.hosts_sql.proofs.Places.has schema t h in
      let by_name = position_kept (λ u. same_name u.name t.name) schema.tables (new_table schema fresh ∷ []) 0 at.at at.named in
      let by_tree = position_kept (λ u. u.tree == t.tree) schema.tables (new_table schema fresh ∷ []) 0 at.at (h.1.0 ∙ at.named) in
      (kept_table t.name t h.0, (by_tree ∙ sym by_name, h.1.1))

  pub found : table_in schema fresh.name ≡ None → table_in (created schema fresh) fresh.name ≡ Some (new_table schema fresh)
  found untaken =
      find-append (λ u. same_name u.name fresh.name) schema.tables (new_table schema fresh ∷ []) ∙ ap (λ o. option_or o (find (λ u. same_name u.name fresh.name) (new_table schema fresh ∷ []))) untaken
      ∙ ap (λ b. cond b (Some (new_table schema fresh)) None) (same_itself fresh.name)

  pub tree_is : table_in schema fresh.name ≡ None → tree_in (created schema fresh) fresh.name ≡ next_tree schema
  tree_is untaken = ap (λ o. unwrap_or (option_map (λ (u : Table). u.tree) o) 0) (found untaken)

  pub new_there : table_in schema fresh.name ≡ None → next_tree schema < 65536 → HasTable (created schema fresh) (new_table schema fresh)
  new_there untaken low =
      let by_name = position_new (λ u. same_name u.name fresh.name) schema.tables (new_table schema fresh) 0 (none_at (λ u. same_name u.name fresh.name) schema.tables 0 untaken) (same_itself fresh.name) in
      let by_tree = position_new (λ u. u.tree == next_tree schema) schema.tables (new_table schema fresh) 0 (none_above schema.tables (next_tree schema) 0 (table_below schema)) (itself (next_tree schema)) in
      (found untaken, (by_tree ∙ sym by_name, lt-ltb (next_tree schema) 65536 low))

  pub no_other : is_expected fresh ≡ true → list_all (λ i. is_reserved i.name) (automatics (new_table schema fresh) 0 (next_tree schema + 1) fresh.uniques) ≡ true → has_no_other schema ≡ true → has_no_other (created schema fresh) ≡ true
  no_other is indexed h =
      let parts = and_parts (list_all is_expected schema.tables) (list_all (λ i. is_reserved i.name) schema.indexes && (length schema.views == 0)) h in
      let more = and_parts (list_all (λ i. is_reserved i.name) schema.indexes) (length schema.views == 0) parts.1 in
      let tables : list_all is_expected (created schema fresh).tables ≡ true = list_all-append is_expected schema.tables (new_table schema fresh ∷ []) ∙ (λ i. parts.0 i && (is i && true)) in
      let indexes : list_all (λ i. is_reserved i.name) (created schema fresh).indexes ≡ true = list_all-append (λ i. is_reserved i.name) schema.indexes (automatics (new_table schema fresh) 0 (next_tree schema + 1) fresh.uniques) ∙ (λ i. more.0 i && indexed i) in
      λ i. tables i && (indexes i && more.1 i)

  pub uncounted : fresh.is_counted ≡ false → has_no_other schema ≡ true → lacks_sequence (created schema fresh) ≡ false
  uncounted free h =
      let counted = list_any-append (λ t. t.is_counted) schema.tables (new_table schema fresh ∷ []) ∙ (λ i. none_counted schema.tables (expected schema h) i || (free i || false)) in
      ap (λ b. b && not (Rattle.std.specs.Option.is_some (Rattle.sqlite.specs.Rows.sequence (created schema fresh)))) counted

  pub low_tree_of : (db : _) → IsSound (created schema fresh) db → next_tree schema < 65536
  low_tree_of db sound = low_last _ schema.tables (new_table schema fresh) sound.lists.listed.tables

  -- the table of the addresses stays what it is, where this is another one
  pub takes_kept : same_name fresh.name addresses_name ≡ false → TakesAddresses schema → TakesAddresses (created schema fresh)
  takes_kept other h = go (table_in schema addresses_name) refl h
    where
      go : (o : Option Table) → table_in schema addresses_name ≡ o → IsOfAddresses schema o → TakesAddresses (created schema fresh)
      go None is h = subst (IsOfAddresses (created schema fresh)) (sym (kept_none addresses_name is other)) tt
      go (Some t) is h =
          let there = subst (λ n. HasTable (created schema fresh) (addresses_table n)) (sym (kept_tree addresses_name t is)) (kept (addresses_table (tree_in schema addresses_name)) h) in
          subst (IsOfAddresses (created schema fresh)) (sym (kept_table addresses_name t is)) there

-- ---- no index has the name of a table of hosts

-- the first byte in lower case
abbrev pub first_of : List ℕ → ℕ
first_of name = get_or (map to_ascii_lowercase name) 0 0

same_first : (a b : List ℕ) → same_name a b ≡ true → first_of a ≡ first_of b
same_first a b h = ap (λ (name : List ℕ). get_or name 0 0) ((lowered a b).0 h)

reserved_first : (name : List ℕ) → is_reserved name ≡ true → first_of name ≡ 115
reserved_first [] h = absurd (let e = same_first [] (codes "sqlite_") h in omega (arith, e))
reserved_first (x ∷ xs) h = same_first (take 7 (x ∷ xs)) (codes "sqlite_") h

reserved_apart : (n name : List ℕ) → is_reserved n ≡ true → first_of name ≢ 115 → same_name n name ≡ false
reserved_apart n name h other = go (same_name n name) refl
  where
    go : (b : Bool) → same_name n name ≡ b → same_name n name ≡ false
    go true e = absurd (other (sym (same_first n name e) ∙ reserved_first n h))
    go false e = e

no_position : (name : List ℕ) (indexes : List Index) (n : ℕ) → first_of name ≢ 115 → list_all (λ i. is_reserved i.name) indexes ≡ true → position_from (λ i. same_name i.name name) n indexes ≡ None
no_position name [] n other h = refl
no_position name (i ∷ indexes) n other h =
    let parts = and_parts (is_reserved i.name) (list_all (λ x. is_reserved x.name) indexes) h in
    ap (λ b. cond b (Some n) (position_from (λ x. same_name x.name name) (n + 1) indexes)) (reserved_apart i.name name parts.0 other) ∙ no_position name indexes (n + 1) other parts.1

pub no_index : (schema : Schema) (name : List ℕ) → first_of name ≢ 115 → has_no_other schema ≡ true → index_named schema name ≡ None
no_index schema name other h = no_position name schema.indexes 0 other (and_parts (list_all (λ i. is_reserved i.name) schema.indexes) (length schema.views == 0) (and_parts (list_all is_expected schema.tables) _ h).1).0

pub no_views : (schema : Schema) → has_no_other schema ≡ true → schema.views ≡ []
no_views schema h = Rattle.hosts_sql.proofs.Places.none_of schema.views (and_parts (list_all (λ i. is_reserved i.name) schema.indexes) (length schema.views == 0) (and_parts (list_all is_expected schema.tables) _ h).1).1
