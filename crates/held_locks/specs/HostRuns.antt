-- How many runs the owners of each host have.
use Rattle.std.specs.Prelude.{◌≡◌, ℕ, ◌-◌, ◌<◌, ◌⊎◌, Bool, true, cond, List, [], ◌∷◌}
use Rattle.definitions.specs.Bytes.{Bytes, same_bytes}
use Rattle.definitions.specs.Owners.{Owner, is_of_host}

pub record HostCount : Type 0 where
  pub name : Bytes
  pub runs : ℕ

pub record Counted : Type 0 where
  pub counts : List HostCount
  -- where this is false, the counts mean nothing
  pub whole : Bool

abbrev pub count_in : List HostCount → Bytes → ℕ
count_in [] name = 0
count_in (h ∷ hs) name = cond (same_bytes name h.name) h.runs (count_in hs name)

-- how many the host has
abbrev pub runs_of : Counted → Bytes → ℕ
runs_of c name = count_in c.counts name

-- no name has to be kept for the host that was not
abbrev pub HasRoom : ℕ → ℕ → Type 0
HasRoom count runs = (count ≡ 0) ⊎ (0 < runs)

-- the host has so many, the others what they had
pub record Puts (host : Bytes) (count : ℕ) (old new : Counted) : Type 0 where
  pub was : new.whole ≡ true → old.whole ≡ true
  pub stays : HasRoom count (runs_of old host) → new.whole ≡ old.whole
  pub runs : new.whole ≡ true → (name : Bytes) → runs_of new name ≡ cond (same_bytes host name) count (runs_of old name)

-- of one owner's change, which makes `after` runs of `all`: its host's runs are those of all that are no other's
pub record IsRecounted (x : Owner) (all after : ℕ) (old new : Counted) : Type 0 where
  pub was : new.whole ≡ true → old.whole ≡ true
  pub stays : ((name : Bytes) → is_of_host name x ≡ true → HasRoom (after - (all - runs_of old name)) (runs_of old name)) → new.whole ≡ old.whole
  pub runs : new.whole ≡ true → (name : Bytes) → runs_of new name ≡ cond (is_of_host name x) (after - (all - runs_of old name)) (runs_of old name)
