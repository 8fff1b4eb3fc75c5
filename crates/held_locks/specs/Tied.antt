-- What a table holds by number, how many runs each number has, and whom each number names, beside the settings of owners.
use Rattle.std.specs.Prelude.{ℕ, ◌≡◌, ◌<◌, ◌≤◌, ◌==◌, true, false, List, Option, Some, length, slice_index_or}
use Rattle.definitions.specs.Bytes.{Bytes}
use Rattle.definitions.specs.Owners.{Owner}
use Rattle.definitions.specs.Settings.{Setting}
use Rattle.range_table.specs.declared.run.Setting.{Setting as NumberSetting}
use Rattle.definitions.specs.Starts.{used_of}
use Rattle.held_locks.specs.HostRuns.{Counted, runs_of, IsRecounted}
use Rattle.range_table.specs.File.{File}
use Rattle.range_table.specs.Settings.{Held, mode_at, held_by, IsUsed}
use Rattle.owner_ids.specs.Names.{names_of_owners}
use Rattle.held_locks.specs.Stands.{Stands}

-- how many runs each number has
abbrev pub AreCounts : List NumberSetting → List ℕ → Type 0
AreCounts ns counts = (n : ℕ) → IsUsed (held_by (λ k. k == n) (mode_at ns)) (slice_index_or counts n 0)

-- what the other numbers hold stays
abbrev pub Spares : ℕ → Held → Held → Type 0
Spares n held after = (file : File) (k byte : ℕ) → (k == n) ≡ false → after file k byte ≡ held file k byte

-- each number had so many runs, and all had so many, before one number alone changed what it holds
pub record WereCounted (n : ℕ) (counts : List ℕ) (all : ℕ) (after : List NumberSetting) : Type 0 where
  pub before : List NumberSetting
  pub counted : AreCounts before counts
  pub used : IsUsed (mode_at before) all
  pub spares : Spares n (mode_at before) (mode_at after)

pub record IsTied (ns : List NumberSetting) (counts : List ℕ) (names : List (Option Owner)) (settings : List Setting) : Type 0 where
  pub stands : Stands (names_of_owners names) (mode_at ns) settings
  pub counted : AreCounts ns counts
  pub within : (n : ℕ) (x : Owner) → names_of_owners names n ≡ Some x → n < length counts
  pub few : length counts ≤ 4294967296

-- and how many each host has, where all are counted
abbrev pub AreHostRuns : Counted → List Setting → Type 0
AreHostRuns hosts settings = hosts.whole ≡ true → (name : Bytes) → runs_of hosts name ≡ used_of name settings

pub record IsCounted (ns : List NumberSetting) (counts : List ℕ) (hosts : Counted) (names : List (Option Owner)) (settings : List Setting) : Type 0 where
  pub tied : IsTied ns counts names settings
  pub by_host : AreHostRuns hosts settings

-- the runs of an owner's host are told by those of all, before and after a change of that owner
pub record IsCountedAnew (x : Owner) (held after : Held) (old new : Counted) : Type 0 where
  pub before : ℕ
  pub left : ℕ
  pub were : IsUsed held before
  pub are : IsUsed after left
  pub counted : IsRecounted x before left old new
