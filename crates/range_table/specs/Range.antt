-- The bytes from a first to a last one.
use Rattle.std.specs.Prelude.{ℕ, ◌≤◌, ◌<◌, ◌^◌}

-- bytes of a file, which go from 0 to 2^63 - 1, and at least one
pub record IsRange (first last : ℕ) : Type 0 where
  pub ordered : first ≤ last
  pub inside : last < 2 ^ 63
