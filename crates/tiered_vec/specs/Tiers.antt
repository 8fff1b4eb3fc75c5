-- Lists of 256 numbers, one behind the other.
use Rattle.std.specs.Prelude.{ℕ, ◌≡◌, ◌<◌, ◌++◌, List, length, take, drop}
use Rattle.std.specs.List.{AllByRecursion}

-- the cells from the head on, and then those in front of it
abbrev pub cells_from_head : ℕ → List ℕ → List ℕ
cells_from_head head cells = drop head cells ++ take head cells

pub record IsRing (head : ℕ) (cells : List ℕ) : Type 0 where
  pub inside : head < 256
  pub long : length cells ≡ 256

-- 256 tiers of 256 numbers
pub record AreTiers (tiers : List (List ℕ)) : Type 0 where
  pub count : length tiers ≡ 256
  pub each : AllByRecursion (λ t. length t ≡ 256) tiers
