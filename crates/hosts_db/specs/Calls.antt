-- How a call of a host store ends.
use Rattle.std.specs.Prelude.{◌≡◌, ◌⊎◌, ℕ, ◌+◌, Bool, false, Result, Ok, Err}
use Rattle.definitions.specs.Hosts.{Hosts}
use Rattle.hosts_db.specs.declared.error.StoreError.{StoreError}
use Rattle.hosts_db.specs.declared.error.StoreError.TheVariants.{Starved, StoreRefused}

-- a refusal is counted, and nothing else
abbrev pub Counts : {X : Type 0} → Result X StoreError → ℕ → ℕ → Type 0
Counts (Ok x) before now = now ≡ before
Counts (Err Starved) before now = now ≡ before
Counts (Err StoreRefused) before now = now ≡ before + 1

-- what a crash may leave after a call that was to make this change: after an Ok the change and nothing else; after a refusal what
-- it could leave before, or the whole change; a call that starved did nothing
abbrev pub Leaves : {X : Type 0} → Result X StoreError → (Hosts → Type 0) → (Hosts → Type 0) → Hosts → Type 0
Leaves (Ok x) before now changed = (left : Hosts) → now left → left ≡ changed
Leaves (Err Starved) before now changed = (left : Hosts) → now left → before left
Leaves (Err StoreRefused) before now changed = (left : Hosts) → now left → before left ⊎ (left ≡ changed)

-- the rows after the call
abbrev pub Makes : {X : Type 0} → Result X StoreError → Hosts → Hosts → Hosts → Type 0
Makes (Ok x) before now changed = now ≡ changed
Makes (Err e) before now changed = now ≡ before

-- what stands where the call starved
abbrev pub OnStarved : {X : Type 0} → Result X StoreError → Type 0 → Type 0
OnStarved (Ok x) P = Unit {0}
OnStarved (Err Starved) P = P
OnStarved (Err StoreRefused) P = Unit {0}

abbrev pub IsNotStarved : {X : Type 0} → Result X StoreError → Type 0
IsNotStarved result = OnStarved result ⊥

-- what stands where the call was refused
abbrev pub OnRefused : {X : Type 0} → Result X StoreError → Type 0 → Type 0
OnRefused (Ok x) P = Unit {0}
OnRefused (Err Starved) P = Unit {0}
OnRefused (Err StoreRefused) P = P

-- a call past a limit is refused
abbrev pub IsPastLimit : {X : Type 0} → Result X StoreError → Bool → Type 0
IsPastLimit (Ok x) past = past ≡ false
IsPastLimit (Err Starved) past = past ≡ false
IsPastLimit (Err StoreRefused) past = Unit {0}

-- what a crash may leave after a call that changes no row: what it could leave before, or the rows
abbrev pub LeavesRows : (Hosts → Type 0) → (Hosts → Type 0) → Hosts → Type 0
LeavesRows before now rows = (left : Hosts) → now left → before left ⊎ (left ≡ rows)
