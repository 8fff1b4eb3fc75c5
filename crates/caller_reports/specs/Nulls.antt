-- A call with another procedure.
use Rattle.std.specs.Prelude.{ℕ, ◌<◌, ◌≤◌, List, [], ◌∷◌, ◌++◌, ◌≡◌, length, slice_range}

-- the record with 0 as its procedure, which is the four bytes behind the first 20; a shorter one stays
pub record IsNull (bytes null : List ℕ) : Type 0 where
  pub long : 24 ≤ length bytes → null ≡ slice_range bytes 0 20 ++ (0 ∷ 0 ∷ 0 ∷ 0 ∷ []) ++ slice_range bytes 24 (length bytes)
  pub short : length bytes < 24 → null ≡ bytes
