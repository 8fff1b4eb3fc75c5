-- A schema of version 1 to which the table of the hosts is added.
use Rattle.std.proofs.Common.{◌≡◌, ◌<◌, ◌+◌, true, false, [], ◌∷◌, None, option_map, refl, sym, ap, subst, ◌∙◌}
use Rattle.std.specs.List.{list_all}
use Rattle.sqlite_schema.specs.declared.schema.Schema.{Schema}
use Rattle.sqlite_schema.specs.declared.schema.Table.{Table}
use Rattle.sqlite_schema.specs.Names.{same_name}
use Rattle.sqlite_catalog.specs.Change.{created, next_tree, automatics, is_reserved}
use Rattle.sqlite_tied.specs.Compute.{everything}
use Rattle.hosts_sql.specs.Tables.{own_name, hosts_name, watches_name, first_hosts_name, addresses_name, own_table, hosts_table, watches_table, first_hosts_table}
use Rattle.hosts_sql.specs.Schemas.{HasTable, IsHostSchema, table_in, tree_in, checks_in, is_expected}
use Rattle.hosts_sql.specs.declared.tables.TablesVersion.TheVariants.{First, Second}
use Rattle.hosts_sql.proofs.More.{new_table, kept, kept_table, kept_tree, kept_checks, new_there, no_other, takes_kept, tree_is}
use Rattle.hosts_sql.proofs.Places.{own_at, watches_at, first_at}

abbrev pub added : Schema → Schema
added schema = created schema (hosts_table 0)

hosts_expected : is_expected (hosts_table 0) ≡ true
unfolding everything
hosts_expected = refl

index_expected : (schema : Schema) → list_all (λ i. is_reserved i.name) (automatics (new_table schema (hosts_table 0)) 0 (next_tree schema + 1) ((1 ∷ []) ∷ [])) ≡ true
unfolding everything
index_expected schema = refl

no_addresses : same_name hosts_name addresses_name ≡ false
unfolding everything
no_addresses = refl

module _ (schema : Schema) where
  pub hosts_tree_is : table_in schema hosts_name ≡ None → tree_in (added schema) hosts_name ≡ next_tree schema
  hosts_tree_is untaken = tree_is schema (hosts_table 0) untaken

  -- the tables of schema 1 and this one are those of a file that was upgraded
  pub added_is : IsHostSchema First schema → next_tree schema < 65536 → IsHostSchema Second (added schema)
  added_is h low =
      let fresh = hosts_table 0 in
      let own = subst (λ c. HasTable (added schema) (own_table (tree_in (added schema) own_name) c)) (sym (kept_checks schema fresh own_name _ h.0.0.0.0)) (subst (λ n. HasTable (added schema) (own_table n (checks_in schema own_name))) (sym (kept_tree schema fresh own_name _ h.0.0.0.0)) (kept schema fresh (own_at schema) h.0.0.0)) in
      let watches = subst (λ n. HasTable (added schema) (watches_table n)) (sym (kept_tree schema fresh watches_name _ h.0.0.1.0)) (kept schema fresh (watches_at schema) h.0.0.1) in
      let hosts = subst (λ n. HasTable (added schema) (hosts_table n)) (sym (hosts_tree_is h.1.1.0)) (new_there schema fresh h.1.1.0 low) in
      let first = kept_table schema fresh first_hosts_name _ h.1.0.0 in
      let others = no_other schema fresh hosts_expected (index_expected schema) h.0.1.0 in
      (((own, watches), (others, takes_kept schema fresh no_addresses h.0.1.1)), (hosts, first ∙ sym (ap (option_map (λ (u : Table). first_hosts_table u.tree)) first)))

  -- and where their trees are
  pub own_kept : IsHostSchema First schema → tree_in (added schema) own_name ≡ tree_in schema own_name
  own_kept h = kept_tree schema (hosts_table 0) own_name _ h.0.0.0.0

  pub watches_kept : IsHostSchema First schema → tree_in (added schema) watches_name ≡ tree_in schema watches_name
  watches_kept h = kept_tree schema (hosts_table 0) watches_name _ h.0.0.1.0

  pub first_tree_kept : IsHostSchema First schema → tree_in (added schema) first_hosts_name ≡ tree_in schema first_hosts_name
  first_tree_kept h = kept_tree schema (hosts_table 0) first_hosts_name _ h.1.0.0

  pub first_kept : IsHostSchema First schema → HasTable (added schema) (first_at schema)
  first_kept h = kept schema (hosts_table 0) (first_at schema) h.1.0
