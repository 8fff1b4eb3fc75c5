-- What a list of numbers is after one of them has moved.
use Rattle.std.specs.Prelude.{ℕ, ◌≡◌, ◌+◌, ◌-◌, ◌++◌, List, [], ◌∷◌, take, drop, slice_index_or}

-- the number at one place stands at another in front of it, and those between them one place further back
abbrev pub brought : ℕ → ℕ → List ℕ → List ℕ
brought from to xs = take to xs ++ slice_index_or xs from 0 ∷ (take (from - to) (drop to xs) ++ drop (from + 1) xs)

-- the number at one place stands at another behind it, and those between them one place further in front
abbrev pub numbers_after_move : ℕ → ℕ → List ℕ → List ℕ
numbers_after_move from to xs = take from xs ++ (take (to - from) (drop (from + 1) xs) ++ slice_index_or xs from 0 ∷ drop (to + 1) xs)

-- x was put in at i, and y was taken out in front of j
pub record PushedIn (xs : List ℕ) (i j x : ℕ) (ys : List ℕ) (y : ℕ) : Type 0 where
  pub part : List ℕ
  pub around : ys ≡ take i xs ++ (part ++ drop j xs)
  pub pushed : x ∷ take (j - i) (drop i xs) ≡ part ++ y ∷ []

-- x was put in in front of j, and y was taken out at i
pub record PulledIn (xs : List ℕ) (i j x : ℕ) (ys : List ℕ) (y : ℕ) : Type 0 where
  pub part : List ℕ
  pub around : ys ≡ take i xs ++ (part ++ drop j xs)
  pub pulled : take (j - i) (drop i xs) ++ x ∷ [] ≡ y ∷ part
