-- A host's quota: how many runs its owners may have, on all files together.
use Rattle.std.specs.Prelude.{◌≡◌, ◌≤◌, ℕ, Bool, false, ◌&&◌, ◌||◌, ltb, List, [], ◌∷◌, ◌++◌, Option, Some, None}
use Rattle.definitions.specs.Bytes.{Bytes}
use Rattle.definitions.specs.Owners.{Owner, host_of}
use Rattle.definitions.specs.Settings.{Setting, Request, setting_of}
use Rattle.definitions.specs.Starts.{is_short, refuses, used_of}
use Rattle.definitions.specs.Hosts.{HostRow, Hosts, row_of, full_quota}

-- the quota of each host, by name; a host with no row has none
abbrev pub Quotas : Type 0
Quotas = Bytes → Option ℕ

abbrev pub quota_in : Option HostRow → Option ℕ
quota_in None = None
quota_in (Some row) = Some row.quota

abbrev pub quotas_of : Hosts → Quotas
quotas_of hosts name = quota_in (row_of hosts name)

-- the quota that an owner is held to: its host's. Local owners have none
abbrev pub quota_at : Quotas → Option Bytes → Option ℕ
quota_at quotas None = None
quota_at quotas (Some name) = quotas name

abbrev pub quota_for : Quotas → Owner → Option ℕ
quota_for quotas owner = quota_at quotas (host_of owner)

-- after the setting the host would have more runs than so many, and more than before it
abbrev pub is_past : List Setting → Setting → Bytes → ℕ → Bool
is_past settings s name quota =
    let after = used_of name (settings ++ s ∷ []) in
    ltb quota after && ltb (used_of name settings) after

abbrev pub is_past_own : List Setting → Setting → Bytes → Option ℕ → Bool
is_past_own settings s name None = false
is_past_own settings s name (Some quota) = is_past settings s name quota

abbrev pub exceeds_of : Quotas → List Setting → Setting → Option Bytes → Bool
exceeds_of quotas settings s None = false
exceeds_of quotas settings s (Some name) = is_past_own settings s name (quotas name)

-- the setting goes past the quota of its owner's host
abbrev pub exceeds : Quotas → List Setting → Setting → Bool
exceeds quotas settings s = exceeds_of quotas settings s (host_of s.owner)

-- a lock finds no room: fewer than 2 runs are free, or it goes past its host's quota
abbrev pub lacks_room : ℕ → Quotas → List Setting → Request → Bool
lacks_room room quotas settings r = is_short room settings || exceeds quotas settings (setting_of r)

-- and so an unlock is refused, which may split a run
abbrev pub is_refused : ℕ → Quotas → List Setting → Setting → Bool
is_refused room quotas settings s = refuses room settings s || exceeds quotas settings s

-- ---- the laws

-- a quota of as many runs as the whole table may have refuses nothing that finds free runs
abbrev pub FullQuotaLaw : Type 0
FullQuotaLaw =
    (settings : List Setting) (s : Setting) (name : Bytes) (quota : ℕ) → host_of s.owner ≡ Some name → full_quota ≤ quota
    → refuses full_quota settings s ≡ false → is_past settings s name quota ≡ false
