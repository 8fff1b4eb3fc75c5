-- What a DELETE takes out of its table.
use Rattle.std.proofs.Common.{◌≡◌, ℕ, pos, negsuc, Bool, true, false, cond, List, [], ◌∷◌, map, filter, None, refl, sym, ap, subst, ◌∙◌}
use Rattle.std.specs.List.{list_all, flat_map}
use Rattle.std.specs.List.Sorted.{IsPermutation}
use Rattle.std.proofs.lemmas.List.Sorted.{IsPermutation-map}
use Rattle.hosts_sql.proofs.Reading.{map_twice}
use Rattle.sqlite_value.specs.Order.{Row}
use Rattle.sqlite_sql.specs.Term.{Term, Env, holds}
use Rattle.sqlite_sql.specs.Query.{IsAnswer, output, Output}
use Rattle.sqlite_sql.specs.Program.{overlay}
use Rattle.sqlite_trees.specs.Tree.{Trees, rowid}
use Rattle.sqlite_rules.specs.Edit.{id_in}
use Rattle.sqlite_rules.specs.Calls.{ids_of}
use Rattle.hosts_sql.proofs.Texts.{query}
use Rattle.hosts_sql.proofs.Edits.{rowids}

abbrev pub passes : List Term → Row → Row → Bool
passes tests params row = list_all (holds (params ∷ row ∷ [])) tests

pub each_passing : {A B : Type 0} (p : A → Bool) (f : A → B) (xs : List A) → flat_map (λ x. cond (p x) (f x ∷ []) []) xs ≡ map f (filter p xs)
each_passing p f [] = refl
each_passing p f (x ∷ xs) = go (p x) (each_passing p f xs)
  where
    go : (b : Bool) → flat_map (λ y. cond (p y) (f y ∷ []) []) xs ≡ map f (filter p xs)
        → Rattle.std.proofs.Common.◌++◌ (cond b (f x ∷ []) []) (flat_map (λ y. cond (p y) (f y ∷ []) []) xs) ≡ map f (cond b (x ∷ filter p xs) (filter p xs))
    go true h = ap (λ ys. f x ∷ ys) h
    go false h = h

abbrev env_of : Row → Row → Env
env_of params row = params ∷ row ∷ []

-- the rowids that the query shows
pub answered : (tree : ℕ) (tests : List Term) (params : Row) (db : Trees) (rows : List Row) (a : IsAnswer (query tree tests rowids []) (overlay db []) params rows) → a.staged ≡ map (env_of params) (filter (passes tests params) (db tree))
    → IsPermutation (ids_of (filter (passes tests params) (db tree))) (ids_of rows)
answered tree tests params db rows a staged =
    let picked = filter (passes tests params) (db tree) in
    let q = query tree tests rowids [] in
    let shown : map (λ (o : Output). o.1) a.kept ≡ map (λ row. rowid row ∷ []) picked =
    ap (map (λ (o : Output). o.1)) (a.distinct ∙ ap (map (output q)) staged ∙ map_twice (env_of params) (output q) picked) ∙ map_twice (λ r. output q (env_of params r)) (λ (o : Output). o.1) picked in
    let moved = IsPermutation-map (λ (o : Output). o.1) a.kept a.ordered a.same in
    let out : IsPermutation (map (λ row. rowid row ∷ []) picked) rows = subst (λ ys. IsPermutation (map (λ row. rowid row ∷ []) picked) ys) (sym a.shown) (subst (λ xs. IsPermutation xs (map (λ (o : Output). o.1) a.ordered)) shown moved) in
    subst (λ xs. IsPermutation xs (ids_of rows)) (map_twice (λ row. rowid row ∷ []) (λ row. id_in (rowid row)) picked) (IsPermutation-map (λ row. id_in (rowid row)) _ rows out)
