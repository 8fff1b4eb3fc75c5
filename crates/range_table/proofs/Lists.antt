-- What holds of each element of a list, and tests that hold in front.
use Rattle.std.proofs.Common.{◌≡◌, ℕ, zero, suc, ◌<◌, Bool, true, false, cond, List, [], ◌∷◌, length, get_or, arith}
use Rattle.std.specs.List.{AllByRecursion, filter}
use Rattle.std.specs.List.Sorted.{IsPartitionedBy}

module _ {X : Type 0} where
  pub all_by : (P Q : X → Type 0) (xs : List X) → ((x : X) → P x → Q x) → AllByRecursion P xs → AllByRecursion Q xs
  all_by P Q [] f h = tt
  all_by P Q (x ∷ xs) f h = (f x h.0, all_by P Q xs f h.1)

  pub all_filter : (P : X → Type 0) (test : X → Bool) (xs : List X) → AllByRecursion P xs → AllByRecursion P (filter test xs)
  all_filter P test [] h = tt
  all_filter P test (x ∷ xs) h = go (test x) (all_filter P test xs h.1)
    where
      go : (b : Bool) → AllByRecursion P (filter test xs) → AllByRecursion P (cond b (x ∷ filter test xs) (filter test xs))
      go true k = (h.0, k)
      go false k = k

  pub all_at : (P : X → Type 0) (xs : List X) (k : ℕ) (d : X) → AllByRecursion P xs → k < length xs → P (get_or xs k d)
  all_at P [] k d h l = absurd (omega (arith, l))
  all_at P (x ∷ xs) zero d h l = h.0
  all_at P (x ∷ xs) (suc k) d h l = all_at P xs k d h.1 (omega (arith, l))

  -- the test holds of each element before one of which it holds
  abbrev pub Falls : (X → Bool) → List X → Type 0
  Falls test [] = Unit {0}
  Falls test (x ∷ xs) = AllByRecursion (λ y. test y ≡ true → test x ≡ true) xs × Falls test xs

  pub partitioned : (test : X → Bool) (xs : List X) → Falls test xs → IsPartitionedBy test xs
  partitioned test [] h i j d l u e = absurd (omega (arith, u))
  partitioned test (x ∷ xs) h zero zero d l u e = e
  partitioned test (x ∷ xs) h zero (suc j) d l u e = all_at (λ y. test y ≡ true → test x ≡ true) xs j d h.0 (omega (arith, u)) e
  partitioned test (x ∷ xs) h (suc i) zero d l u e = absurd (omega (arith, l))
  partitioned test (x ∷ xs) h (suc i) (suc j) d l u e = partitioned test xs h.1 i j d (omega (arith, l)) (omega (arith, u)) e
