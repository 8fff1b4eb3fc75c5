-- Shares of whole files, as MS-DOS has them (XNFS, NLM_SHARE): what an owner does, and what it denies the others.
use Rattle.std.specs.Prelude.{◌≡◌, ◌⊎◌, ℕ, Bool, true, false, not, ◌&&◌, ◌||◌, leb, List, [], ◌∷◌, ◌++◌, length}
use Rattle.std.specs.Bool.{Decides}
use Rattle.definitions.specs.Bytes.{Bytes, same_bytes, is_any, list_without, Holds}

-- none, read, write or both
pub record Access : Type 0 where
  pub read : Bool
  pub write : Bool

abbrev pub no_access : Access
no_access = record { read = false; write = false }

abbrev pub read_only : Access
read_only = record { read = true; write = false }

abbrev pub write_only : Access
write_only = record { read = false; write = true }

abbrev pub read_and_write : Access
read_and_write = record { read = true; write = true }

abbrev pub meets : Access → Access → Bool
meets a b = (a.read && b.read) || (a.write && b.write)

pub record Share : Type 0 where
  pub file : Bytes
  pub name : Bytes
  pub oh : Bytes
  pub deny : Access
  pub access : Access

-- of one owner on one file
abbrev pub is_same_place : Share → Share → Bool
is_same_place a b = same_bytes a.file b.file && same_bytes a.name b.name && same_bytes a.oh b.oh

-- on one file, by two owners, where one's access meets what the other denies
abbrev pub shares_clash : Share → Share → Bool
shares_clash a b = same_bytes a.file b.file && not (is_same_place a b) && (meets a.access b.deny || meets a.deny b.access)

abbrev pub is_denied : List Share → Share → Bool
is_denied shares new = is_any (shares_clash new) shares

abbrev pub has_place : List Share → Share → Bool
has_place shares new = is_any (is_same_place new) shares

-- a share past the limit: an owner's second share on a file replaces its first, and needs no room
abbrev pub has_no_room : ℕ → List Share → Share → Bool
has_no_room room shares new = not (has_place shares new) && leb room (length shares)

abbrev pub without_share : Share → List Share → List Share
without_share new shares = list_without (is_same_place new) shares

abbrev pub with_share : Share → List Share → List Share
with_share new shares = without_share new shares ++ new ∷ []

abbrev pub without_host_shares : Bytes → List Share → List Share
without_host_shares name shares = list_without (λ (s : Share). same_bytes s.name name) shares

-- one share for each file and owner: the second takes the first's place
abbrev pub AreSingle : List Share → Type 0
AreSingle [] = Unit {0}
AreSingle (s ∷ shares) = (is_any (is_same_place s) shares ≡ false) × AreSingle shares

abbrev pub SharesLaw : Type 0
SharesLaw =
    (shares : List Share) (new : Share) (name : Bytes) → AreSingle shares
    → AreSingle (with_share new shares) × AreSingle (without_share new shares) × AreSingle (without_host_shares name shares)

-- ---- the rule of clashes, both ways

abbrev pub IsOneOwner : Share → Share → Type 0
IsOneOwner a b = (a.name ≡ b.name) × (a.oh ≡ b.oh)

-- on one file, by two owners, where one does what the other denies
abbrev pub IsClash : Share → Share → Type 0
IsClash a b = (a.file ≡ b.file) × (IsOneOwner a b → ⊥) × ((meets a.access b.deny ≡ true) ⊎ (meets a.deny b.access ≡ true))

-- a new share is denied exactly where it clashes with one that is held
abbrev pub ClashLaw : Type 0
ClashLaw = (shares : List Share) (new : Share) → Decides (is_denied shares new) ((held : Share) × Holds shares held × IsClash new held)

-- there is one share for each file and owner, and of two on one file neither does what the other denies
pub record SharesStand (shares : List Share) : Type 0 where
  pub single : AreSingle shares
  pub coexist : (a b : Share) → Holds shares a → Holds shares b → IsClash a b → ⊥
