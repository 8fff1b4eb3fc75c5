-- Rows that a loop keeps one by one.
use Rattle.std.proofs.Common.{◌≡◌, ◌<◌, ◌≤◌, ◌+◌, ℕ, Bool, true, not, List, map, drop, get_or, length, None, refl, sym, ap, subst}
use Rattle.std.specs.List.{list_any}
use Rattle.std.proofs.lemmas.Bool.{or_from}
use Rattle.std.specs.declared.cmp.Ordering.{Ordering}
use Rattle.std.specs.Cmp.{IsTotalOrder}
use Rattle.std.specs.FinMap.{FinMap, IsAntisymmetric, get, insert, empty, from_entries}
use Rattle.sqlite_value.specs.Order.{Row}
use Rattle.hosts_sql.specs.Own.{AllFit}
use Rattle.hosts_sql.specs.Reading.{AreApart, KeepsAll}
use Rattle.hosts_sql.proofs.Lists.{past_end, next_item}
use Rattle.hosts_sql.proofs.Permuted.{keeps_rows}

module _ {K X : Type 0} {R : K → K → Ordering} (f : Row → K × X) (rows : List Row) (n : ℕ) (m : FinMap R X) (so_far : (after : FinMap R X) → KeepsAll f m (drop n rows) after → KeepsAll f empty rows after) where
  -- the loop has come to the end
  pub keeps_to_end : IsTotalOrder R → IsAntisymmetric R → length rows ≤ n → (m ≡ from_entries (map f rows)) × AreApart R (map f rows)
  keeps_to_end total exact end = keeps_rows total exact f rows m (so_far m (subst (λ xs. KeepsAll f m xs m) (sym (past_end rows n end)) refl))

  -- the loop goes on by a row whose key is new
  pub keeps_next : (row : Row) → n < length rows → row ≡ get_or rows n row → get m (f row).0 ≡ None → (after : FinMap R X) → KeepsAll f (insert m (f row).0 (f row).1) (drop (n + 1) rows) after → KeepsAll f empty rows after
  keeps_next row low is absent after h = so_far after (subst (λ xs. KeepsAll f m xs after) (sym (next_item rows n row low is)) (absent, h))

-- the same of rows that pass a test
module _ (fits : Row → Bool) (rows : List Row) (n : ℕ) (so_far : AllFit fits (drop n rows) → AllFit fits rows) where
  pub fit_to_end : length rows ≤ n → AllFit fits rows
  fit_to_end end = so_far (subst (AllFit fits) (sym (past_end rows n end)) refl)

  pub fit_next : (row : Row) → n < length rows → row ≡ get_or rows n row → fits row ≡ true → AllFit fits (drop (n + 1) rows) → AllFit fits rows
  fit_next row low is fit h = so_far (subst (AllFit fits) (sym (next_item rows n row low is)) (or_from (not (fits row)) (list_any (λ r. not (fits r)) (drop (n + 1) rows)) (ap not fit) h))
