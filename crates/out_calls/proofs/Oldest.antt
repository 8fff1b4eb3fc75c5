-- The oldest of the calls that pass, one call after another.
use Rattle.std.proofs.Common.{◌≡◌, ◌<◌, Bool, true, false, cond, ℕ, List, [], ◌∷◌, ◌++◌, Option, Some, None, refl, sym, ap, arith, ltb, get_or, take, length, ◌+◌, ◌∙◌}
use Rattle.std.proofs.lemmas.List.{take_more}
use Rattle.std.proofs.lemmas.Bool.Decides.{nat_tests}
use Rattle.definitions.specs.Outgoing.{Outgoing, oldest_that, older}
use Rattle.out_calls.specs.Found.{kept_or}

-- the least of three, from either side
kept-older : (r : Option Outgoing) (x y : Outgoing) → older (Some (kept_or r x)) y ≡ kept_or (Some (older r y)) x
kept-older None x y = refl
kept-older (Some r) x y = go (ltb x.number r.number) (ltb r.number y.number) (ltb x.number y.number) refl refl refl
  where
    go : (a b c : Bool) → ltb x.number r.number ≡ a → ltb r.number y.number ≡ b → ltb x.number y.number ≡ c → cond (ltb (cond a x r).number y.number) (cond a x r) y ≡ cond (ltb x.number (cond b r y).number) x (cond b r y)
    go true true c e f g =
        let k : ltb x.number y.number ≡ true = grind (arith, nat_tests, e, f) in
        rw (e, k) refl
    go true false c e f g = refl
    go false true c e f g = rw (e, f) refl
    go false false c e f g =
        let k : ltb x.number y.number ≡ false = grind (arith, nat_tests, e, f) in
        rw (f, k) refl

pub oldest_that-push : (test : Outgoing → Bool) (xs : List Outgoing) (x : Outgoing) → oldest_that test (xs ++ x ∷ []) ≡ cond (test x) (Some (kept_or (oldest_that test xs) x)) (oldest_that test xs)
oldest_that-push test [] x = refl
oldest_that-push test (y ∷ ys) x = go (test x) (test y) (oldest_that-push test ys x)
  where
    go : (a b : Bool) → oldest_that test (ys ++ x ∷ []) ≡ cond a (Some (kept_or (oldest_that test ys) x)) (oldest_that test ys) → cond b (Some (older (oldest_that test (ys ++ x ∷ [])) y)) (oldest_that test (ys ++ x ∷ [])) ≡ cond a (Some (kept_or (cond b (Some (older (oldest_that test ys) y)) (oldest_that test ys)) x)) (cond b (Some (older (oldest_that test ys) y)) (oldest_that test ys))
    go true true h = ap (λ o. Some (older o y)) h ∙ ap Some (kept-older (oldest_that test ys) x y)
    go true false h = h
    go false true h = ap (λ o. Some (older o y)) h
    go false false h = h

-- one call further
pub oldest_that-more : (test : Outgoing → Bool) (xs : List Outgoing) (i : ℕ) (x : Outgoing) → i < length xs → x ≡ get_or xs i x → oldest_that test (take (i + 1) xs) ≡ cond (test x) (Some (kept_or (oldest_that test (take i xs)) x)) (oldest_that test (take i xs))
oldest_that-more test xs i x l e = ap (oldest_that test) (take_more xs i x l ∙ ap (λ y. take i xs ++ y ∷ []) (sym e)) ∙ oldest_that-push test (take i xs) x

module _ (test : Outgoing → Bool) (xs : List Outgoing) (i : ℕ) (x : Outgoing) (o : Option Outgoing) (l : i < length xs) (e : x ≡ get_or xs i x) (so_far : o ≡ oldest_that test (take i xs)) where
  pub oldest_that-yes : (y : Outgoing) → true ≡ test x → y ≡ kept_or o x → Some y ≡ oldest_that test (take (i + 1) xs)
  oldest_that-yes y t k = sym (oldest_that-more test xs i x l e ∙ (rw (← t, ← so_far, k) refl))

  pub oldest_that-no : false ≡ test x → o ≡ oldest_that test (take (i + 1) xs)
  oldest_that-no t = sym (oldest_that-more test xs i x l e ∙ (rw (← t, ← so_far) refl))
