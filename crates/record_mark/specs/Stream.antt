-- Record marking of RFC 5531, section 11, as a relation on a whole stream.
use Rattle.std.specs.Prelude.{◌≡◌, ℕ, ◌+◌, ◌^◌, ◌%◌, ◌<◌, ◌≤◌, ◌⊎◌, Bool, true, false, List, [], ◌∷◌, ◌++◌, length, drop, if◌then◌else◌}
use Rattle.std.specs.Bool.{nat_le}
use Rattle.std.specs.Int.{w32, from_be_bytes}
use Rattle.std.specs.List.{flat_map, All}
use Rattle.record_mark.specs.declared.TheConstants.{MOST_RECORD_BYTES}

-- a fragment begins with its mark, a word in big-endian order: the top bit says that it is the record's last
abbrev pub is_last : List ℕ → Bool
is_last fragment = nat_le (2 ^ 31) (from_be_bytes w32 fragment)

-- and the other 31 bits, how many bytes of the record follow
abbrev pub size_of : List ℕ → ℕ
size_of fragment = from_be_bytes w32 fragment % 2 ^ 31

abbrev pub IsFragment : List ℕ → Type 0
IsFragment bytes = length bytes ≡ 4 + size_of bytes

-- so much of a record there is after one fragment more
abbrev pub begun_with : List ℕ → List ℕ → List ℕ
begun_with begun fragment = if is_last fragment then [] else begun ++ drop 4 fragment

-- the records that a fragment ends: one or none
abbrev pub ended_by : List ℕ → List ℕ → List (List ℕ)
ended_by begun fragment = if is_last fragment then (begun ++ drop 4 fragment) ∷ [] else []

-- the records that the fragments make, each the join of its fragments, where there is a part of the first already
abbrev pub joined_records : List ℕ → List (List ℕ) → List (List ℕ)
joined_records begun [] = []
joined_records begun (f ∷ fs) = ended_by begun f ++ joined_records (begun_with begun f) fs

-- what there is of the record after those
abbrev pub begun_after : List ℕ → List (List ℕ) → List ℕ
begun_after begun [] = begun
begun_after begun (f ∷ fs) = begun_after (begun_with begun f) fs

-- no record is longer than the bound
abbrev pub Fit : List ℕ → List (List ℕ) → Type 0
Fit begun [] = Unit {0}
Fit begun (f ∷ fs) = (length begun + size_of f ≤ MOST_RECORD_BYTES) × Fit (begun_with begun f) fs

-- the stream is whole fragments that make these records, then of the next record the fragments in begun, and then the rest
pub record Reads (stream : List ℕ) (records : List (List ℕ)) (begun rest : List ℕ) : Type 0 where
  pub fragments : List (List ℕ)
  pub each : All IsFragment fragments
  pub fit : Fit [] fragments
  pub whole : flat_map (λ f. f) fragments ++ rest ≡ stream
  pub makes : joined_records [] fragments ≡ records
  pub leaves : begun_after [] fragments ≡ begun

-- less than a whole mark, or less than a whole fragment of a record that fits so far
abbrev pub IsUnfinished : List ℕ → List ℕ → Type 0
IsUnfinished begun rest = (length rest < 4) ⊎ ((length rest < 4 + size_of rest) × (length begun + size_of rest ≤ MOST_RECORD_BYTES))

-- a mark by which the record would be longer than the bound
abbrev pub IsTooLong : List ℕ → List ℕ → Type 0
IsTooLong begun rest = (4 ≤ length rest) × (MOST_RECORD_BYTES < length begun + size_of rest)

abbrev pub IsEnding : Bool → List ℕ → List ℕ → Type 0
IsEnding false begun rest = IsUnfinished begun rest
IsEnding true begun rest = IsTooLong begun rest

-- the stream is these records and then no whole record, or a fault: the first mark of a record that would be too long
pub record Splits (stream : List ℕ) (records : List (List ℕ)) (fault : Bool) : Type 0 where
  pub begun : List ℕ
  pub rest : List ℕ
  pub reads : Reads stream records begun rest
  pub ending : IsEnding fault begun rest

-- a stream is these records and no others, however it was cut into pieces
abbrev pub HasOneReading : Type 0
HasOneReading =
    (stream : List ℕ) (records others : List (List ℕ)) (fault other : Bool) → Splits stream records fault → Splits stream others other
    → (records ≡ others) × (fault ≡ other)
