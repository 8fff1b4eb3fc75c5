-- What is said of whatever settings and waiters the numbers stand for.
use Rattle.std.specs.Prelude.{◌≡◌, ℕ, false, List, IsSome}
use Rattle.definitions.specs.Bytes.{Bytes}
use Rattle.definitions.specs.Settings.{Setting, Request}
use Rattle.definitions.specs.Starts.{is_short, used_of}
use Rattle.definitions.specs.Waits.{Waiter}
use Rattle.owner_ids.specs.Names.{Names}
use Rattle.held_locks.specs.Stands.{WhereStands}
use Rattle.range_table.specs.declared.run.Run.{Run}
use Rattle.range_table.specs.declared.run.Setting.{Setting as NumberSetting}
use Rattle.blocked_list.specs.Waiting.{Waiting, AreKnown, request_by, waiter_by, waiters_by}

abbrev pub WhereWaits : Names → List NumberSetting → List Waiting → (List Setting → List Waiter → Type 0) → Type 0
WhereWaits names ns ws Says = WhereStands names ns (λ settings. AreKnown names ws → Says settings (waiters_by names ws))

-- and of a lock that is wanted by an owner whose number is in use
abbrev pub WhereWants : Names → List NumberSetting → List Waiting → Run → (List Setting → List Waiter → Request → Type 0) → Type 0
WhereWants names ns ws wanted Says =
    WhereWaits names ns ws (λ settings waiters. IsSome (names wanted.owner) → Says settings waiters (request_by names wanted))

-- of one waiter alone, where 2 runs are free
abbrev pub WhereFree : Names → List NumberSetting → Waiting → (List Setting → Waiter → Type 0) → Type 0
WhereFree names ns w Says =
    WhereStands names ns (λ settings. IsSome (names w.wanted.owner) → is_short 65536 settings ≡ false → Says settings (waiter_by names w))

-- so many runs each host has
abbrev pub AreRunsOf : (Bytes → ℕ) → List Setting → Type 0
AreRunsOf runs settings = (name : Bytes) → runs name ≡ used_of name settings

-- what is said where so many runs each host has
abbrev pub WhereCounted : Names → List NumberSetting → List Waiting → (Bytes → ℕ) → (List Setting → List Waiter → Type 0) → Type 0
WhereCounted names ns ws runs Says = WhereWaits names ns ws (λ settings waiters. AreRunsOf runs settings → Says settings waiters)
