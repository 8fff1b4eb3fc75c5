-- Lists by their length and their elements.
use Rattle.std.proofs.Common.{◌+◌, drop, refl, ℕ, zero, suc, ◌≡◌, ◌<◌, ◌≤◌, List, [], ◌∷◌, length, get_or, sym, ap, arith}

pub one_item : {X : Type 0} (xs : List X) (x : X) → 1 ≤ length xs → length xs < 2 → x ≡ get_or xs 0 x → xs ≡ x ∷ []
one_item [] x low high is = absurd (omega arith)
one_item (a ∷ []) x low high is = ap (λ y. y ∷ []) (sym is)
one_item (a ∷ b ∷ xs) x low high is = absurd (omega arith)

pub past_end : {X : Type 0} (xs : List X) (n : ℕ) → length xs ≤ n → drop n xs ≡ []
past_end [] zero h = refl
past_end [] (suc n) h = refl
past_end (x ∷ xs) zero h = absurd (omega (arith, h))
past_end (x ∷ xs) (suc n) h = past_end xs n (omega (arith, h))

-- the next element, before those behind it
pub next_item : {X : Type 0} (xs : List X) (n : ℕ) (x : X) → n < length xs → x ≡ get_or xs n x → drop n xs ≡ x ∷ drop (n + 1) xs
next_item [] n x h is = absurd (omega (arith, h))
next_item (y ∷ ys) zero x h is = ap (λ z. z ∷ ys) (sym is)
next_item (y ∷ ys) (suc n) x h is = let e : suc n + 1 ≡ suc (n + 1) = omega arith in rw e (next_item ys n x (omega (arith, h)) is)
