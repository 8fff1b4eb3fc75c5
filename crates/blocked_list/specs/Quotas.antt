-- Which quotas can hold an owner back.
use Rattle.std.specs.Prelude.{◌≡◌, ◌<◌, ℕ, Bool, false, ltb, List, Option, Some, None}
use Rattle.definitions.specs.Hosts.{full_quota}
use Rattle.definitions.specs.Owners.{Owner, host_of}
use Rattle.definitions.specs.Quotas.{Quotas, quota_for, exceeds}
use Rattle.definitions.specs.Settings.{Setting}
use Rattle.definitions.specs.Starts.{refuses}
use Rattle.blocked_list.specs.declared.quotas.Limit.{Limit}

-- one of as many runs as the whole table may have holds nobody back
abbrev pub is_limiting : Option ℕ → Bool
is_limiting None = false
is_limiting (Some quota) = ltb quota full_quota

abbrev pub is_limited : Quotas → Owner → Bool
is_limited quotas owner = is_limiting (quota_for quotas owner)

-- the owner's host and the quota that can hold it back, where there is one
abbrev pub IsLimit : Quotas → Owner → Option Limit → Type 0
IsLimit quotas owner None = is_limited quotas owner ≡ false
IsLimit quotas owner (Some l) = (host_of owner ≡ Some l.host.now) × (quotas l.host.now ≡ Some l.quota) × (l.quota < 65536)

-- who isn't held back by a quota goes past none
abbrev pub UnlimitedLaw : Type 0
UnlimitedLaw =
    (quotas : Quotas) (settings : List Setting) (s : Setting) → is_limited quotas s.owner ≡ false
    → refuses 65536 settings s ≡ false → exceeds quotas settings s ≡ false
