-- The first element that passes a test, and where it stands.
use Rattle.std.specs.Prelude.{◌≡◌, ℕ, Bool, true, false, List, ◌∷◌, ◌++◌, length, Option, Some, None}
use Rattle.definitions.specs.Bytes.{is_any}

-- x stands at place i, and is the first that passes the test
pub record IsFirstAt {X : Type 0} (test : X → Bool) (xs : List X) (i : ℕ) : Type 0 where
  pub before : List X
  pub x : X
  pub behind : List X
  pub there : xs ≡ before ++ x ∷ behind
  pub place : length before ≡ i
  pub none_before : is_any test before ≡ false
  pub passes : test x ≡ true

-- where the first stands that passes; None where none does
abbrev pub IsFirstPlace : {X : Type 0} → (X → Bool) → List X → Option ℕ → Type 0
IsFirstPlace test xs None = is_any test xs ≡ false
IsFirstPlace test xs (Some i) = IsFirstAt test xs i
