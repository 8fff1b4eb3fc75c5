-- Which records of a stream were taken.
use Rattle.std.specs.Prelude.{ℕ, zero, suc, Bool, true, false, List, [], ◌∷◌}
use Rattle.record_mark.specs.Stream.{Splits}

-- these are the whole records of all the bytes
abbrev pub AreRecords : List ℕ → List (List ℕ) → Type 0
AreRecords received records = (fault : Bool) × Splits received records fault

-- the records that were not taken, in order. A flag for each of the first records says whether it was
abbrev pub untaken_records : List (List ℕ) → List Bool → List (List ℕ)
untaken_records [] flags = []
untaken_records (r ∷ rs) [] = r ∷ rs
untaken_records (r ∷ rs) (true ∷ flags) = untaken_records rs flags
untaken_records (r ∷ rs) (false ∷ flags) = r ∷ untaken_records rs flags

-- the flags after the i-th of the others is taken
abbrev pub flags_with : List Bool → ℕ → List Bool
flags_with [] zero = true ∷ []
flags_with [] (suc i) = false ∷ flags_with [] i
flags_with (true ∷ flags) i = true ∷ flags_with flags i
flags_with (false ∷ flags) zero = true ∷ flags
flags_with (false ∷ flags) (suc i) = false ∷ flags_with flags i
