-- What a contract sees of the locks: the settings, oldest first, and the owner of each number.
use Rattle.std.specs.Prelude.{ℕ, ◌≡◌, List, Option, Some, None}
use Rattle.definitions.specs.Bytes.{Bytes}
use Rattle.definitions.specs.Owners.{Owner}
use Rattle.definitions.specs.Settings.{Setting, mode_at}
use Rattle.owner_ids.specs.Names.{names_of_owners}

pub record Held : Type 0 where
  pub settings : List Setting
  pub names : List (Option Owner)

-- the owner has a number, so that a lock of it takes no memory
abbrev pub IsKnown : Held → Owner → Type 0
IsKnown h x = (n : ℕ) × (names_of_owners h.names n ≡ Some x)

-- who was known still is
abbrev pub KeepsKnown : Held → Held → Type 0
KeepsKnown before after = (x : Owner) → IsKnown before x → IsKnown after x

-- who had a number has that number still
abbrev pub KeepsNames : Held → Held → Type 0
KeepsNames before after = (n : ℕ) (x : Owner) → names_of_owners before.names n ≡ Some x → names_of_owners after.names n ≡ Some x

-- each number names whom it named
abbrev pub SameNames : Held → Held → Type 0
SameNames before after = (n : ℕ) → names_of_owners after.names n ≡ names_of_owners before.names n

-- the owner holds no byte
abbrev pub HoldsNothing : Held → Owner → Type 0
HoldsNothing h x = (file : Bytes) (byte : ℕ) → mode_at h.settings file x byte ≡ None
