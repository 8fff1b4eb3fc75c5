-- What the words come to, and how the program ends.
use Rattle.std.specs.Prelude.{◌≡◌, ◌⊎◌, ℕ}
use Rattle.config.specs.Asked.{HasStatus}
use Rattle.config.specs.declared.fault.ConfigFault.{ConfigFault}
use Rattle.config.specs.declared.settings.Config.{Config}
use Rattle.lockd_serving.specs.Ran.{Ran, Stand}

-- the fault's status, or 1 in place of 0: the help or the version can't be printed
abbrev pub EndsBy : ConfigFault → ℕ → Type 0
EndsBy fault status = HasStatus fault status ⊎ (HasStatus fault 0 × (status ≡ 1))

-- nothing is asked, or there was no memory to read what is
abbrev pub IsUnasked : (Config → Type 0) → ℕ → Type 0
IsUnasked asks status = ((asked : Config) → asks asked → ⊥) ⊎ (status ≡ 1)

-- something that is asked was done; else nothing is read or written
abbrev pub RunsWords : (Config → Type 0) → ℕ → Stand → Stand → Type 0
RunsWords asks status old new = ((asked : Config) × asks asked × Ran asked status old new) ⊎ (IsUnasked asks status × (new ≡ old))
