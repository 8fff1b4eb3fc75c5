-- What a contract sees of a world that is held: the world of the definitions, who has a number, and how often the store refused.
use Rattle.std.specs.Prelude.{◌≡◌, ℕ, false, List, Option, Some, None}
use Rattle.definitions.specs.Bytes.{Bytes, is_any}
use Rattle.definitions.specs.Owners.{Owner, same_owner}
use Rattle.definitions.specs.Settings.{mode_at}
use Rattle.definitions.specs.Waits.{Waiter}
use Rattle.definitions.specs.World.{World}
use Rattle.owner_ids.specs.Names.{names_of_owners}

pub record Seen : Type 0 where
  pub world : World
  pub names : List (Option Owner)
  pub refusals : ℕ

-- the owner has a number, so that a lock of it takes no memory
abbrev pub Knows : Seen → Owner → Type 0
Knows s x = (n : ℕ) × (names_of_owners s.names n ≡ Some x)

-- who was known still is
abbrev pub KeepsKnown : Seen → Seen → Type 0
KeepsKnown before after = (x : Owner) → Knows before x → Knows after x

-- nobody has become known
abbrev pub AdmitsNobody : Seen → Seen → Type 0
AdmitsNobody before after = (x : Owner) → Knows after x → Knows before x

-- the owner holds nothing, and waits for nothing
pub record IsIdle (w : World) (x : Owner) : Type 0 where
  pub holds_nothing : (file : Bytes) (byte : ℕ) → mode_at w.settings file x byte ≡ None
  pub waits_not : is_any (λ (y : Waiter). same_owner y.request.owner x) w.waiters ≡ false
