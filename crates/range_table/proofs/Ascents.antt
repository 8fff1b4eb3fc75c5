-- Runs that ascend, and runs that have changed places.
use Rattle.std.proofs.Common.{◌≡◌, ℕ, zero, suc, ◌-◌, ◌<◌, ◌≤◌, true, List, [], ◌∷◌, refl, sym, subst, inl, inr, arith, length, take, drop, slice_index_or}
use Rattle.std.specs.List.{All}
use Rattle.std.specs.List.Sorted.{IsPermutation}
use Rattle.std.specs.Cmp.{IsTotalOrder}
use Rattle.std.specs.declared.cmp.Ordering.{Ordering}
use Rattle.std.specs.declared.cmp.Ordering.TheVariants.{Equal}
use Rattle.std.proofs.lemmas.List.{take_all}
use Rattle.std.proofs.lemmas.List.Sorted.{All-permutation, IsPermutation-sym}
use Rattle.range_table.specs.Settings.{Held, IsIn, IsOrdered, AreRuns, comes_before}
use Rattle.range_table.specs.Runs.{ascends}
use Rattle.range_table.specs.declared.run.Run.{Run}
use Rattle.range_table.proofs.Tests.{by_test}
use Rattle.range_table.proofs.Ranks.{before_all}

module _ (order : ℕ → ℕ → Ordering) (total : IsTotalOrder order) (exact : (a b : ℕ) → order a b ≡ Equal → a ≡ b) where
  pub ascends_ordered : (r : Run) (rs : List Run) → ascends order r rs ≡ true → IsOrdered order (r ∷ rs)
  ascends_ordered r [] h = (tt, tt)
  ascends_ordered r (s ∷ ss) h =
      by_test (comes_before order r s)
      (λ t. let more = ascends_ordered s ss (rw t at h) in ((t, before_all order total exact r s ss t more.0), more))
      (λ t. let f = rw t at h in absurd (cc))

  pub list_ordered : (rs : List Run) (x : Run) → 1 ≤ length rs → x ≡ slice_index_or rs 0 x → ascends order x (take (length rs - 1) (drop 1 rs)) ≡ true → IsOrdered order rs
  list_ordered [] x l e h = absurd (omega (arith, l))
  list_ordered (r ∷ rs) x l e h = ascends_ordered r rs (subst (λ y. ascends order y rs ≡ true) e (subst (λ ys. ascends order x ys ≡ true) (take_all (length (r ∷ rs) - 1) rs (omega arith)) h))

at_in : (ss : List Run) (k : ℕ) (d : Run) → k < length ss → IsIn (slice_index_or ss k d) ss
at_in [] k d l = absurd (omega (arith, l))
at_in (s ∷ ss) zero d l = inl refl
at_in (s ∷ ss) (suc k) d l = inr (at_in ss k d (omega (arith, l)))

in_all : (P : Run → Type 0) (r : Run) (rs : List Run) → All P rs → IsIn r rs → P r
in_all P r [] h i = absurd i
in_all P r (s ∷ ss) h (inl e) = subst P (sym e) (h 0 s (omega arith))
in_all P r (s ∷ ss) h (inr i) = in_all P r ss (λ k d l. h (suc k) d (omega (arith, l))) i

-- each member of the one list is one of the other
members : (rs ss : List Run) → IsPermutation rs ss → (r : Run) → IsIn r rs → IsIn r ss
members rs ss p r i = in_all (λ x. IsIn x ss) r rs (All-permutation (λ x. IsIn x ss) ss rs (IsPermutation-sym rs ss p) (at_in ss)) i

pub AreRuns-moved : (order other : ℕ → ℕ → Ordering) (held : Held) (rs ss : List Run) → IsPermutation rs ss → AreRuns order held rs → IsOrdered other ss → AreRuns other held ss
AreRuns-moved order other held rs ss p a o = record {
  ordered = o;
  each = λ r i. a.each r (members ss rs (IsPermutation-sym rs ss p) r i);
  all = λ r h. members rs ss p r (a.all r h);
}
