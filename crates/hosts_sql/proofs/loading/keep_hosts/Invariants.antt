use Rattle.std.proofs.Common.{◌≡◌, map, drop}
use Rattle.std.specs.FinMap.{FinMap, empty, entries}
use Rattle.definitions.specs.Bytes.{bytes_cmp}
use Rattle.hosts_sql.specs.Maps.{Host, host_row}
use Rattle.hosts_sql.specs.Shown.{host_of}
use Rattle.hosts_sql.specs.Own.{has_host_numbers, AllFit}
use Rattle.hosts_sql.specs.Reading.{KeepsAll}
use Rattle.hosts_sql.proofs.loading.keep_hosts.Given as goal

-- the hosts so far are a map, and what is left goes into it
abbrev pub invariant-loop-at : goal.invariant-loop-at
invariant-loop-at l =
    (m : FinMap bytes_cmp Host) × (l.kept ≡ record l.fn.kept { rows = map host_row (entries m) }) × ((after : FinMap bytes_cmp Host) → KeepsAll host_of m (drop l.at l.rows) after → KeepsAll host_of empty l.rows after)
    × (AllFit has_host_numbers (drop l.at l.rows) → AllFit has_host_numbers l.rows)
