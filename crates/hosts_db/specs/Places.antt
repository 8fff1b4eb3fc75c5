-- Where an element is in a list in order, or where it would go.
use Rattle.std.specs.Prelude.{◌≡◌, ℕ, ◌<◌, ◌≤◌, ◌+◌, pos, slice_set, List, [], ◌∷◌, length, Result, Ok, Err}
use Rattle.std.specs.List.{AllWithin, HoldsAt, insert}
use Rattle.std.specs.declared.cmp.Ordering.{Ordering}
use Rattle.std.specs.declared.cmp.Ordering.TheVariants.{Less, Equal, Greater}
use Rattle.definitions.specs.Bytes.{Bytes, list_with}
use Rattle.definitions.specs.Nsm.{MyId}
use Rattle.definitions.specs.Hosts.{HostRow, Watch}

-- the element there ties with x
pub record IsAt {X : Type 0} (cmp : X → X → Ordering) (x : X) (xs : List X) (at : ℕ) : Type 0 where
  pub inside : at < length xs
  pub ties : HoldsAt (λ y. cmp y x ≡ Equal) xs at

-- what stands before the place is below x, and the rest above it
pub record IsGap {X : Type 0} (cmp : X → X → Ordering) (x : X) (xs : List X) (at : ℕ) : Type 0 where
  pub inside : at ≤ length xs
  pub below : AllWithin (λ y. cmp y x ≡ Less) xs 0 at
  pub above : AllWithin (λ y. cmp y x ≡ Greater) xs at (length xs)

abbrev pub IsPlace : {X : Type 0} → (X → X → Ordering) → X → List X → Result ℕ ℕ → Type 0
IsPlace cmp x xs (Ok at) = IsAt cmp x xs at
IsPlace cmp x xs (Err at) = IsGap cmp x xs at

-- a row and a watch with this key
abbrev pub row_named : Bytes → HostRow
row_named name = record { name = name; epoch = 0; seen = pos 0; quota = 0 }

abbrev pub watch_keyed : Bytes → MyId → Watch
watch_keyed name my = record { mon_name = name; my_id = my; private_bytes = name }

-- the place is one of the list's, or there is room for one more
abbrev pub IsInside : Result ℕ ℕ → ℕ → ℕ → Type 0
IsInside (Ok at) count room = at < count
IsInside (Err at) count room = (at ≤ count) × (count < room)

abbrev pub put_at_place : {X : Type 0} → List X → Result ℕ ℕ → X → List X
put_at_place xs (Ok at) x = slice_set xs at x
put_at_place xs (Err at) x = insert xs at x

abbrev pub len_after : ℕ → Result ℕ ℕ → ℕ
len_after count (Ok at) = count
len_after count (Err at) = count + 1

-- each of the first list in its place in the second, the last first
abbrev pub put_all : {X : Type 0} → (X → X → Ordering) → List X → List X → List X
put_all cmp [] more = more
put_all cmp (x ∷ xs) more = list_with cmp x (put_all cmp xs more)
