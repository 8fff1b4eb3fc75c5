-- Rows whose rowids differ: what a DELETE takes out by rowid is what its WHERE finds.
use Rattle.std.proofs.Common.{◌≡◌, ℤ, Bool, true, false, cond, not, ◌&&◌, ◌||◌, List, [], ◌∷◌, filter, refl, sym, ap, ◌∙◌}
use Rattle.std.proofs.lemmas.Bool.{true≢false, or_parts}
use Rattle.std.specs.List.{list_any}
use Rattle.std.specs.Ordering.{is_eq}
use Rattle.std.specs.Cmp.{eq_by_cmp_equiv}
use Rattle.std.specs.List.Sorted.{IsPermutation}
use Rattle.std.proofs.lemmas.List.Sorted.{list_any-IsPermutation}
use Rattle.std.proofs.lemmas.Cmp.{tied_itself}
use Rattle.sqlite_value.specs.declared.value.Value.TheVariants.{Int}
use Rattle.sqlite_value.specs.Order.{Row, value_cmp}
use Rattle.sqlite_value.proofs.OrderLemmas.{value_cmp_total}
use Rattle.sqlite_trees.specs.Tree.{rowid, has_rowid, without_rowid}
use Rattle.sqlite_rules.specs.Edit.{id_in, is_taken, without_all}
use Rattle.sqlite_rules.specs.Calls.{ids_of}

-- each rowid is an integer that no later row has
abbrev pub AreOwnIds : List Row → Type 0
AreOwnIds [] = Unit {0}
AreOwnIds (r ∷ rs) = (rowid r ≡ Int (id_in (rowid r))) × (is_taken rs r ≡ false) × AreOwnIds rs

data IsAmong (r : Row) : List Row → Type 0 where
  Here : {rs : List Row} → IsAmong r (r ∷ rs)
  Later : {s : Row} {rs : List Row} → IsAmong r rs → IsAmong r (s ∷ rs)

-- ---- filters

filter_both : {X : Type 0} (p q : X → Bool) (xs : List X) → filter q (filter p xs) ≡ filter (λ x. p x && q x) xs
filter_both p q [] = refl
filter_both p q (x ∷ xs) = go (p x) (filter_both p q xs)
  where
    go : (b : Bool) → filter q (filter p xs) ≡ filter (λ y. p y && q y) xs → filter q (cond b (x ∷ filter p xs) (filter p xs)) ≡ cond (b && q x) (x ∷ filter (λ y. p y && q y) xs) (filter (λ y. p y && q y) xs)
    go true h = ap (λ ys. cond (q x) (x ∷ ys) ys) h
    go false h = h

filter_alike : {X : Type 0} (p q : X → Bool) (xs : List X) → ((x : X) → p x ≡ q x) → filter p xs ≡ filter q xs
filter_alike p q [] f = refl
filter_alike p q (x ∷ xs) f = ap (λ b. cond b (x ∷ filter p xs) (filter p xs)) (f x) ∙ ap (λ ys. cond (q x) (x ∷ ys) ys) (filter_alike p q xs f)

not_or : (a b : Bool) → (not a && not b) ≡ not (a || b)
not_or true b = refl
not_or false b = refl

filter_all : {X : Type 0} (xs : List X) → filter (λ x. true) xs ≡ xs
filter_all [] = refl
filter_all (x ∷ xs) = ap (λ ys. x ∷ ys) (filter_all xs)

-- what is left has none of the rowids
left_by_ids : (rows : List Row) (ids : List ℤ) → without_all rows ids ≡ filter (λ r. not (list_any (λ id. has_rowid id r) ids)) rows
left_by_ids rows [] = sym (filter_all rows)
left_by_ids rows (id ∷ ids) =
    left_by_ids (without_rowid id rows) ids
    ∙ filter_both (λ r. not (has_rowid id r)) (λ r. not (list_any (λ id. has_rowid id r) ids)) rows
    ∙ filter_alike (λ r. not (has_rowid id r) && not (list_any (λ id. has_rowid id r) ids)) (λ r. not (list_any (λ id. has_rowid id r) (id ∷ ids))) rows (λ r. not_or (has_rowid id r) (list_any (λ id. has_rowid id r) ids))

-- ---- a row's rowid is its own

module _ (p : Row → Bool) where
  -- some picked row has this row's rowid
  abbrev met : Row → List Row → Bool
  met r rows = list_any (λ id. has_rowid id r) (ids_of (filter p rows))

  ties_false : (r : Row) (xs : List Row) → AreOwnIds xs → is_taken xs r ≡ false → met r xs ≡ false
  ties_false r [] own free = refl
  ties_false r (x ∷ xs) own free = go (is_eq (value_cmp (rowid x) (rowid r))) refl (p x) free (λ h. ties_false r xs own.2 h)
    where
      apart : is_eq (value_cmp (rowid x) (rowid r)) ≡ false → has_rowid (id_in (rowid x)) r ≡ false
      apart e = ap (λ v. is_eq (value_cmp (rowid r) v)) (sym own.0) ∙ (eq_by_cmp_equiv value_cmp_total).symm (rowid r) (rowid x) ∙ e

      go : (tie : Bool) → is_eq (value_cmp (rowid x) (rowid r)) ≡ tie → (b : Bool) → (tie || is_taken xs r) ≡ false → (is_taken xs r ≡ false → met r xs ≡ false) → list_any (λ id. has_rowid id r) (ids_of (cond b (x ∷ filter p xs) (filter p xs))) ≡ false
      go true e b h more = absurd (true≢false h)
      go false e true h more = ap (λ t. t || met r xs) (apart e) ∙ more h
      go false e false h more = more h

  not_taken : (r s : Row) (xs : List Row) → IsAmong r xs → is_taken xs s ≡ false → is_eq (value_cmp (rowid r) (rowid s)) ≡ false
  not_taken r s [] h free = elim h [ ]
  not_taken r s (r' ∷ xs) Here free = (or_parts (is_eq (value_cmp (rowid r) (rowid s))) (is_taken xs s) free).0
  not_taken r s (x ∷ xs) (Later h) free = not_taken r s xs h (or_parts (is_eq (value_cmp (rowid x) (rowid s))) (is_taken xs s) free).1

  met_own : (r : Row) (rows : List Row) → AreOwnIds rows → IsAmong r rows → met r rows ≡ p r
  met_own r [] own h = elim h [ ]
  met_own r (r' ∷ rs) own Here = go (p r) refl
    where
      itself : has_rowid (id_in (rowid r)) r ≡ true
      itself = ap (λ v. is_eq (value_cmp (rowid r) v)) (sym own.0) ∙ ap is_eq (tied_itself value_cmp_total (rowid r))

      go : (b : Bool) → p r ≡ b → list_any (λ id. has_rowid id r) (ids_of (cond b (r ∷ filter p rs) (filter p rs))) ≡ b
      go true e = ap (λ t. t || met r rs) itself
      go false e = ties_false r rs own.2 own.1
  met_own r (s ∷ rs) own (Later h) = go (p s) (met_own r rs own.2 h)
    where
      apart : has_rowid (id_in (rowid s)) r ≡ false
      apart = ap (λ v. is_eq (value_cmp (rowid r) v)) (sym own.0) ∙ not_taken r s rs h own.1

      go : (b : Bool) → met r rs ≡ p r → list_any (λ id. has_rowid id r) (ids_of (cond b (s ∷ filter p rs) (filter p rs))) ≡ p r
      go true more = ap (λ t. t || met r rs) apart ∙ more
      go false more = more

  filter_among : (a b : Row → Bool) (rows : List Row) → ((r : Row) → IsAmong r rows → a r ≡ b r) → filter a rows ≡ filter b rows
  filter_among a b [] f = refl
  filter_among a b (r ∷ rs) f = ap (λ t. cond t (r ∷ filter a rs) (filter a rs)) (f r Here) ∙ ap (λ ys. cond (b r) (r ∷ ys) ys) (filter_among a b rs (λ s h. f s (Later h)))

  -- a DELETE of what passes, whose rowids come in any order
  pub deleted : (rows : List Row) (ids : List ℤ) → AreOwnIds rows → IsPermutation (ids_of (filter p rows)) ids → without_all rows ids ≡ filter (λ r. not (p r)) rows
  deleted rows ids own moved =
      left_by_ids rows ids
      ∙ filter_among (λ r. not (list_any (λ id. has_rowid id r) ids)) (λ r. not (p r)) rows (λ r h. ap not (sym (list_any-IsPermutation (λ id. has_rowid id r) (ids_of (filter p rows)) ids moved) ∙ met_own r rows own h))
