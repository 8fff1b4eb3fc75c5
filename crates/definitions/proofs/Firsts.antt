-- The first that passes a test: what is found, and what is left without it.
use Rattle.std.proofs.Common.{◌≡◌, ◌<◌, Bool, true, false, cond, not, ℕ, suc, ◌||◌, ◌+◌, ltb, List, [], ◌∷◌, ◌++◌, length, Option, Some, None, refl, sym, ap, arith, ◌∙◌}
use Rattle.std.proofs.lemmas.Bool.{false≢true, or_right}
use Rattle.std.proofs.lemmas.Bool.Decides.{nat_tests}
use Rattle.std.specs.List.{remove, position_or_len}
use Rattle.std.specs.Prelude.{slice_index_or}
use Rattle.std.specs.Option.{is_some}
use Rattle.definitions.specs.Bytes.{is_any, first_that, without_first, list_without, change_first}
use Rattle.definitions.specs.First.{IsFirstAt, IsFirstPlace}

module _ {X : Type 0} (test : X → Bool) where
  -- one more in front
  more : (x : X) (xs : List X) (i : ℕ) → test x ≡ false → IsFirstAt test xs i → IsFirstAt test (x ∷ xs) (1 + i)
  more x xs i e f = record {
    before = x ∷ f.before;
    x = f.x;
    behind = f.behind;
    there = ap (λ l. x ∷ l) f.there;
    place = let p = f.place in omega (arith, p);
    none_before = rw e f.none_before;
    passes = f.passes;
  }

  pub first_at : (xs : List X) → position_or_len test xs < length xs → IsFirstAt test xs (position_or_len test xs)
  first_at [] l = absurd (omega (arith, l))
  first_at (x ∷ xs) l = go (test x) refl (first_at xs) l
    where
      go : (b : Bool) → test x ≡ b → (position_or_len test xs < length xs → IsFirstAt test xs (position_or_len test xs)) → cond (not b) (1 + position_or_len test xs) 0 < suc (length xs) → IsFirstAt test (x ∷ xs) (cond (not b) (1 + position_or_len test xs) 0)
      go true e h k = record { before = []; x = x; behind = xs; there = refl; place = refl; none_before = refl; passes = e }
      go false e h k = more x xs (position_or_len test xs) e (h (omega (arith, k)))

  pub none_at : (xs : List X) → (position_or_len test xs < length xs → ⊥) → is_any test xs ≡ false
  none_at [] n = refl
  none_at (x ∷ xs) n = go (test x) (none_at xs) n
    where
      go : (b : Bool) → ((position_or_len test xs < length xs → ⊥) → is_any test xs ≡ false) → (cond (not b) (1 + position_or_len test xs) 0 < suc (length xs) → ⊥) → (b || is_any test xs) ≡ false
      go true h k = absurd (k (omega arith))
      go false h k = h (λ l. k (omega (arith, l)))

  pub first_that-none : (xs : List X) → is_any test xs ≡ false → first_that test xs ≡ None
  first_that-none [] e = refl
  first_that-none (x ∷ xs) e = go (test x) (first_that-none xs) e
    where
      go : (b : Bool) → (is_any test xs ≡ false → first_that test xs ≡ None) → (b || is_any test xs) ≡ false → cond b (Some x) (first_that test xs) ≡ None
      go true k h = absurd (false≢true (sym h))
      go false k h = k h

  pub without_first-none : (xs : List X) → is_any test xs ≡ false → without_first test xs ≡ xs
  without_first-none [] e = refl
  without_first-none (x ∷ xs) e = go (test x) (without_first-none xs) e
    where
      go : (b : Bool) → (is_any test xs ≡ false → without_first test xs ≡ xs) → (b || is_any test xs) ≡ false → cond b xs (x ∷ without_first test xs) ≡ x ∷ xs
      go true k h = absurd (false≢true (sym h))
      go false k h = ap (λ l. x ∷ l) (k h)

  pub without-none : (xs : List X) → is_any test xs ≡ false → list_without test xs ≡ xs
  without-none [] e = refl
  without-none (x ∷ xs) e = go (test x) (without-none xs) e
    where
      go : (b : Bool) → (is_any test xs ≡ false → list_without test xs ≡ xs) → (b || is_any test xs) ≡ false → cond b (list_without test xs) (x ∷ list_without test xs) ≡ x ∷ xs
      go true k h = absurd (false≢true (sym h))
      go false k h = ap (λ l. x ∷ l) (k h)

  pub change_first-none : (change : X → X) (xs : List X) → is_any test xs ≡ false → change_first test change xs ≡ xs
  change_first-none change [] e = refl
  change_first-none change (x ∷ xs) e = go (test x) (change_first-none change xs) e
    where
      go : (b : Bool) → (is_any test xs ≡ false → change_first test change xs ≡ xs) → (b || is_any test xs) ≡ false → cond b (change x ∷ xs) (x ∷ change_first test change xs) ≡ x ∷ xs
      go true k h = absurd (false≢true (sym h))
      go false k h = ap (λ l. x ∷ l) (k h)

  first_that-split : (before : List X) (x : X) (behind : List X) → is_any test before ≡ false → test x ≡ true → first_that test (before ++ x ∷ behind) ≡ Some x
  first_that-split [] x behind n p = rw p refl
  first_that-split (y ∷ ys) x behind n p = go (test y) (λ h. first_that-split ys x behind h p) n
    where
      go : (b : Bool) → (is_any test ys ≡ false → first_that test (ys ++ x ∷ behind) ≡ Some x) → (b || is_any test ys) ≡ false → cond b (Some y) (first_that test (ys ++ x ∷ behind)) ≡ Some x
      go true k h = absurd (false≢true (sym h))
      go false k h = k h

  without_first-split : (before : List X) (x : X) (behind : List X) → is_any test before ≡ false → test x ≡ true → without_first test (before ++ x ∷ behind) ≡ before ++ behind
  without_first-split [] x behind n p = rw p refl
  without_first-split (y ∷ ys) x behind n p = go (test y) (λ h. without_first-split ys x behind h p) n
    where
      go : (b : Bool) → (is_any test ys ≡ false → without_first test (ys ++ x ∷ behind) ≡ ys ++ behind) → (b || is_any test ys) ≡ false → cond b (ys ++ x ∷ behind) (y ∷ without_first test (ys ++ x ∷ behind)) ≡ y ∷ (ys ++ behind)
      go true k h = absurd (false≢true (sym h))
      go false k h = ap (λ l. y ∷ l) (k h)

  remove-split : (before : List X) (x : X) (behind : List X) → remove (before ++ x ∷ behind) (length before) ≡ before ++ behind
  remove-split [] x behind = refl
  remove-split (y ∷ ys) x behind = ap (λ l. y ∷ l) (remove-split ys x behind)

  at-split : (before : List X) (x : X) (behind : List X) (d : X) → slice_index_or (before ++ x ∷ behind) (length before) d ≡ x
  at-split [] x behind d = refl
  at-split (y ∷ ys) x behind d = at-split ys x behind d

  within-split : (before : List X) (x : X) (behind : List X) → length before < length (before ++ x ∷ behind)
  within-split [] x behind = omega arith
  within-split (y ∷ ys) x behind = let h = within-split ys x behind in omega (arith, h)

  pub first_within : (xs : List X) (i : ℕ) → IsFirstAt test xs i → i < length xs
  first_within xs i f = rw (f.there, ← f.place) (within-split f.before f.x f.behind)

  pub first_is : (xs : List X) (i : ℕ) (d : X) → (f : IsFirstAt test xs i) → slice_index_or xs i d ≡ f.x
  first_is xs i d f = rw (f.there, ← f.place) (at-split f.before f.x f.behind d)

  pub first_that-at : (xs : List X) (i : ℕ) → (f : IsFirstAt test xs i) → first_that test xs ≡ Some f.x
  first_that-at xs i f = ap (first_that test) f.there ∙ first_that-split f.before f.x f.behind f.none_before f.passes

  pub without_first-at : (xs : List X) (i : ℕ) → IsFirstAt test xs i → without_first test xs ≡ remove xs i
  without_first-at xs i f = rw (f.there, ← f.place) (without_first-split f.before f.x f.behind f.none_before f.passes ∙ sym (remove-split f.before f.x f.behind))

  pub first_place : (xs : List X) (place : Option ℕ) → place ≡ cond (ltb (position_or_len test xs) (length xs)) (Some (position_or_len test xs)) None → IsFirstPlace test xs place
  first_place xs place e = rw e (go (ltb (position_or_len test xs) (length xs)) refl)
    where
      go : (b : Bool) → ltb (position_or_len test xs) (length xs) ≡ b → IsFirstPlace test xs (cond b (Some (position_or_len test xs)) None)
      go true t = first_at xs (grind (arith, nat_tests, t))
      go false t = none_at xs (λ l. grind (arith, nat_tests, t, l))

  -- what stands there is what is found
  pub found_at : (xs : List X) (i : ℕ) (y : X) → IsFirstAt test xs i → y ≡ slice_index_or xs i y → Some y ≡ first_that test xs
  found_at xs i y f e = ap Some (e ∙ first_is xs i y f) ∙ sym (first_that-at xs i f)

  -- what is read there twice is one
  pub same_at : (xs : List X) (i : ℕ) (y z : X) → IsFirstAt test xs i → y ≡ slice_index_or xs i y → z ≡ slice_index_or xs i z → y ≡ z
  same_at xs i y z f e g = e ∙ first_is xs i y f ∙ sym (g ∙ first_is xs i z f)

  any-split : (before : List X) (x : X) (behind : List X) → test x ≡ true → is_any test (before ++ x ∷ behind) ≡ true
  any-split [] x behind p = rw p refl
  any-split (y ∷ ys) x behind p = or_right (test y) (is_any test (ys ++ x ∷ behind)) (any-split ys x behind p)

  pub any_at : (xs : List X) (i : ℕ) → IsFirstAt test xs i → is_any test xs ≡ true
  any_at xs i f = ap (is_any test) f.there ∙ any-split f.before f.x f.behind f.passes

  pub place_found : (xs : List X) (place : Option ℕ) → IsFirstPlace test xs place → is_some place ≡ is_any test xs
  place_found xs None e = sym e
  place_found xs (Some i) f = sym (any_at xs i f)
