use Rattle.std.proofs.Common.{◌≡◌, map, drop}
use Rattle.std.specs.FinMap.{FinMap, empty, entries}
use Rattle.definitions.specs.Bytes.{Bytes}
use Rattle.hosts_sql.specs.Maps.{key_cmp, watch_row}
use Rattle.hosts_sql.specs.Shown.{watch_of}
use Rattle.hosts_sql.specs.Reading.{KeepsAll}
use Rattle.hosts_sql.proofs.loading.keep_watches.Given as goal

-- the watches so far are a map, and what is left goes into it
abbrev pub invariant-loop-at : goal.invariant-loop-at
invariant-loop-at l =
    (m : FinMap key_cmp Bytes) × (l.kept ≡ record l.fn.kept { watches = map watch_row (entries m) }) × ((after : FinMap key_cmp Bytes) → KeepsAll watch_of m (drop l.at l.rows) after → KeepsAll watch_of empty l.rows after)
