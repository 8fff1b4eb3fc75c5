-- How many wait, by the remainders of their owners' numbers.
use Rattle.std.specs.Prelude.{◌≡◌, ◌==◌, ◌%◌, ◌+◌, ℕ, cond, List, [], ◌∷◌, length, slice_index_or}
use Rattle.blocked_list.specs.Waiting.{Waiting}

abbrev pub tally : ℕ → List Waiting → ℕ
tally k [] = 0
tally k (w ∷ ws) = cond (w.wanted.owner % 8192 == k) (tally k ws + 1) (tally k ws)

pub record AreCounted (ws : List Waiting) (counts : List ℕ) : Type 0 where
  pub many : length counts ≡ 8192
  pub each : (k : ℕ) → slice_index_or counts k 0 ≡ tally k ws
