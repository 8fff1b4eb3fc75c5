-- The versions that are served, and in what they differ (RFC 1813, appendix II; XNFS).
use Rattle.std.specs.Prelude.{ℕ, ◌==◌, Bool, true, false, cond, Option, Some, None}
use Rattle.definitions.specs.Nlm as nlm
use Rattle.nlm4_types.specs.declared.version.Version.{Version}
use Rattle.nlm4_types.specs.declared.version.Version.TheVariants.{V1, V3, V4}

-- the lock manager's program
abbrev pub program : ℕ
program = 100021

abbrev pub view_of_version : Version → nlm.Version
view_of_version V1 = nlm.V1
view_of_version V3 = nlm.V3
view_of_version V4 = nlm.V4

-- as calls number them
abbrev pub version_number : nlm.Version → ℕ
version_number nlm.V1 = 1
version_number nlm.V3 = 3
version_number nlm.V4 = 4

abbrev pub numbered_version : ℕ → Option nlm.Version
numbered_version n = cond (n == 1) (Some nlm.V1) (cond (n == 3) (Some nlm.V3) (cond (n == 4) (Some nlm.V4) None))

-- whether offsets and lengths have 8 bytes
abbrev pub is_wide : nlm.Version → Bool
is_wide nlm.V1 = false
is_wide nlm.V3 = false
is_wide nlm.V4 = true

-- whether it has the procedures 20 to 23
abbrev pub has_shares : nlm.Version → Bool
has_shares nlm.V1 = false
has_shares nlm.V3 = true
has_shares nlm.V4 = true
