-- The statuses and their words (RFC 1813, appendix II, nlm4_stats).
use Rattle.std.specs.Prelude.{ℕ, List, [], ◌∷◌, refl}
use Rattle.xdr_core.specs.Codec.{Codec}
use Rattle.xdr_core.specs.Formats.{enumeration}
use Rattle.definitions.specs.Nlm.{Stat, GRANTED, DENIED, DENIED_NOLOCKS, BLOCKED, DENIED_GRACE_PERIOD, DEADLCK, ROFS, STALE_FH, FBIG, FAILED}
use Rattle.nlm4_types.specs.declared.stat.Stat as declared
use Rattle.nlm4_types.specs.declared.stat.Stat.TheVariants.{Granted, Denied, DeniedNolocks, Blocked, DeniedGracePeriod, Deadlck, Rofs, StaleFh, Fbig, Failed}

abbrev pub view_of_stat : declared.Stat → Stat
view_of_stat Granted = GRANTED
view_of_stat Denied = DENIED
view_of_stat DeniedNolocks = DENIED_NOLOCKS
view_of_stat Blocked = BLOCKED
view_of_stat DeniedGracePeriod = DENIED_GRACE_PERIOD
view_of_stat Deadlck = DEADLCK
view_of_stat Rofs = ROFS
view_of_stat StaleFh = STALE_FH
view_of_stat Fbig = FBIG
view_of_stat Failed = FAILED

abbrev pub number_of_stat : Stat → ℕ
number_of_stat GRANTED = 0
number_of_stat DENIED = 1
number_of_stat DENIED_NOLOCKS = 2
number_of_stat BLOCKED = 3
number_of_stat DENIED_GRACE_PERIOD = 4
number_of_stat DEADLCK = 5
number_of_stat ROFS = 6
number_of_stat STALE_FH = 7
number_of_stat FBIG = 8
number_of_stat FAILED = 9

abbrev pub stats : List Stat
stats = GRANTED ∷ DENIED ∷ DENIED_NOLOCKS ∷ BLOCKED ∷ DENIED_GRACE_PERIOD ∷ DEADLCK ∷ ROFS ∷ STALE_FH ∷ FBIG ∷ FAILED ∷ []

unfoldable pub stat : Codec Stat
stat = enumeration stats FAILED number_of_stat refl
