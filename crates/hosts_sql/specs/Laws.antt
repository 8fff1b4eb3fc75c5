-- What is true of the rows of every file that is taken.
use Rattle.std.specs.Prelude.{◌≡◌, ◌<◌, ◌≤◌, true, FitsSigned}
use Rattle.std.specs.Int.{w32}
use Rattle.sqlite_value.specs.Order.{Row}
use Rattle.hosts_sql.specs.Maps.{host_row}
use Rattle.hosts_sql.specs.Own.{has_host_numbers}
use Rattle.hosts_sql.specs.Shown.{host_of}

-- a row whose numbers fit shows an own state that there may be, a host's state of 32 bits, and no quota above the full one
abbrev pub NumbersFit : Type 0
NumbersFit =
    (row : Row) → has_host_numbers row ≡ true
    → ((host_row (host_of row)).epoch < 2147483648) × FitsSigned w32 (host_row (host_of row)).seen × ((host_row (host_of row)).quota ≤ 65536)
