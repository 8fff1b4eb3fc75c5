-- A schema that has a table.
use Rattle.std.proofs.Common.{◌≡◌, ℕ, true, List, Some, None, Option, option_map, refl, sym, ap, subst, ◌∙◌}
use Rattle.std.specs.Prelude.{nat_lt, unwrap_or, ◌==◌}
use Rattle.std.specs.List.{position_from}
use Rattle.sqlite_schema.specs.declared.schema.Schema.{Schema}
use Rattle.sqlite_schema.specs.declared.schema.Table.{Table}
use Rattle.sqlite_schema.specs.Names.{table_named}
use Rattle.hosts_sql.specs.Tables.{own_name, hosts_name, watches_name, first_hosts_name, own_table, hosts_table, watches_table, first_hosts_table, addresses_name, addresses_table}
use Rattle.hosts_sql.specs.Schemas.{table_in, tree_in, checks_in, HasTable, IsOfAddresses, TakesAddresses}

module _ (schema : Schema) (t : Table) where
  tree_is : (name : List ℕ) → table_in schema name ≡ Some t → t.tree ≡ tree_in schema name
  tree_is name is = sym (ap (λ o. unwrap_or (option_map (λ (u : Table). u.tree) o) 0) is)

  abbrev pub Alone : List ℕ → Type 0
  Alone name = position_from (λ u. u.tree == t.tree) 0 schema.tables ≡ table_named schema name

  there : (make : ℕ → Table) → ((n : ℕ) → (make n).tree ≡ n) → t ≡ make t.tree → table_in schema (make t.tree).name ≡ Some t → Alone (make t.tree).name → nat_lt t.tree 65536 ≡ true → HasTable schema (make t.tree)
  there make trees same is alone low = (
    is ∙ ap Some same,
    (ap (λ n. position_from (λ (u : Table). u.tree == n) 0 schema.tables) (trees t.tree) ∙ alone, ap (λ n. nat_lt n 65536) (trees t.tree) ∙ low),
  )

  pub own_there : table_in schema own_name ≡ Some t → t ≡ own_table t.tree t.checks → Alone own_name → nat_lt t.tree 65536 ≡ true → HasTable schema (own_table (tree_in schema own_name) (checks_in schema own_name))
  own_there is same alone low =
      let checks : t.checks ≡ checks_in schema own_name = sym (ap (λ o. unwrap_or (option_map (λ (u : Table). u.checks) o) Rattle.std.proofs.Common.[]) is) in
      subst (λ c. HasTable schema (own_table (tree_in schema own_name) c)) checks (subst (λ n. HasTable schema (own_table n t.checks)) (tree_is own_name is) (there (λ n. own_table n t.checks) (λ n. refl) same is alone low))

  pub hosts_there : table_in schema hosts_name ≡ Some t → t ≡ hosts_table t.tree → Alone hosts_name → nat_lt t.tree 65536 ≡ true → HasTable schema (hosts_table (tree_in schema hosts_name))
  hosts_there is same alone low = subst (λ n. HasTable schema (hosts_table n)) (tree_is hosts_name is) (there hosts_table (λ n. refl) same is alone low)

  pub first_there : table_in schema first_hosts_name ≡ Some t → t ≡ first_hosts_table t.tree → Alone first_hosts_name → nat_lt t.tree 65536 ≡ true → HasTable schema (first_hosts_table (tree_in schema first_hosts_name))
  first_there is same alone low = subst (λ n. HasTable schema (first_hosts_table n)) (tree_is first_hosts_name is) (there first_hosts_table (λ n. refl) same is alone low)

  pub watches_there : table_in schema watches_name ≡ Some t → t ≡ watches_table t.tree → Alone watches_name → nat_lt t.tree 65536 ≡ true → HasTable schema (watches_table (tree_in schema watches_name))
  watches_there is same alone low = subst (λ n. HasTable schema (watches_table n)) (tree_is watches_name is) (there watches_table (λ n. refl) same is alone low)

  pub addresses_there : table_in schema addresses_name ≡ Some t → t ≡ addresses_table t.tree → Alone addresses_name → nat_lt t.tree 65536 ≡ true → TakesAddresses schema
  addresses_there is same alone low =
      let it = subst (λ n. HasTable schema (addresses_table n)) (tree_is addresses_name is) (there addresses_table (λ n. refl) same is alone low) in
      subst (IsOfAddresses schema) (sym is) it

  pub old_there : table_in schema first_hosts_name ≡ Some t → t ≡ first_hosts_table t.tree → table_in schema first_hosts_name ≡ option_map (λ u. first_hosts_table u.tree) (table_in schema first_hosts_name)
  old_there is same = is ∙ ap Some same ∙ sym (ap (option_map (λ (u : Table). first_hosts_table u.tree)) is)

pub no_addresses_there : (schema : Schema) → table_in schema addresses_name ≡ None → TakesAddresses schema
no_addresses_there schema is = subst (IsOfAddresses schema) (sym is) tt

pub none_there : (schema : Schema) → table_in schema first_hosts_name ≡ None → table_in schema first_hosts_name ≡ option_map (λ u. first_hosts_table u.tree) (table_in schema first_hosts_name)
none_there schema is = is ∙ sym (ap (option_map (λ (u : Table). first_hosts_table u.tree)) is)
