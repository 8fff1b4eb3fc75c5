-- What a write does, and when one may come.
use Rattle.std.specs.Prelude.{◌≡◌, ◌⊎◌, ℕ, ◌-◌, eqb, ltb, Bool, true, false, cond, not, List, [], ◌∷◌, ◌++◌, length}
use Rattle.reply_outbox.specs.declared.buffer.TheConstants.{JOINED, LARGEST}
use Rattle.reply_outbox.specs.Effects.{Effect, Writes, Breaks}

-- the connection took these bytes whole, or the write broke
abbrev pub IsWritten : ℕ → List ℕ → List Effect → List Effect → Type 0
IsWritten connection bytes old new = (new ≡ old ++ Writes connection bytes ∷ []) ⊎ (new ≡ old ++ Breaks connection ∷ [])

-- what is joined leaves no room for one more record
abbrev pub is_full : List ℕ → Bool
is_full joined = ltb (JOINED - LARGEST) (length joined)

-- what is joined for the connection `to` is written before a record for the connection n is joined
abbrev pub is_written_before : ℕ → ℕ → List ℕ → Bool
is_written_before n to [] = false
is_written_before n to (b ∷ joined) = cond (is_full (b ∷ joined)) true (not (eqb n to))
