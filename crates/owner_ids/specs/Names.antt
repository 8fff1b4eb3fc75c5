-- Owners have numbers while they are in use.
use Rattle.std.specs.Prelude.{ℕ, ◌≡◌, ◌≢◌, ◌⊎◌, Bool, false, List, Option, Some, None, slice_index_or}
use Rattle.std.specs.Ordering.{nat_cmp, ordering_then}
use Rattle.std.specs.Option.{option_cmp}
use Rattle.std.specs.declared.cmp.Ordering.{Ordering}
use Rattle.definitions.specs.Bytes.{Bytes}
use Rattle.definitions.specs.Owners.{Owner, owner_cmp, is_of_host}

-- the owner of a number in use
abbrev pub Names : Type 0
Names = ℕ → Option Owner

-- no owner has two numbers
pub record AreDistinct (names : Names) : Type 0 where
  pub once : (n k : ℕ) (x : Owner) → names n ≡ Some x → names k ≡ Some x → n ≡ k

-- what the number n has is now x, and nothing else is changed
pub record Renames (names after : Names) (n : ℕ) (x : Option Owner) : Type 0 where
  pub there : after n ≡ x
  pub others : (k : ℕ) → k ≢ n → after k ≡ names k

-- the order of owners, and of numbers that are not in use
abbrev pub number_cmp : Names → ℕ → ℕ → Ordering
number_cmp names n k = ordering_then (option_cmp owner_cmp (names n) (names k)) (nat_cmp n k)

-- an owner at each number, or none
abbrev pub names_of_owners : List (Option Owner) → Names
names_of_owners owners n = slice_index_or owners n None

-- n is the owner's number, or it is not in use and the owner has none
abbrev pub IsNumberFor : Names → ℕ → Owner → Type 0
IsNumberFor names n x = (names n ≡ Some x) ⊎ ((names n ≡ None) × ((k : ℕ) → names k ≢ Some x))

abbrev pub is_some_of_host : Bytes → Option Owner → Bool
is_some_of_host name None = false
is_some_of_host name (Some x) = is_of_host name x

-- the number is in use, and its owner is of the host
abbrev pub is_owned_by : Names → Bytes → ℕ → Bool
is_owned_by names name n = is_some_of_host name (names n)
