-- Counts in a map, by name.
use Rattle.std.specs.Prelude.{map}
use Rattle.std.specs.Ordering.{nat_cmp}
use Rattle.std.specs.Cmp.Lexicographic.{slice_cmp}
use Rattle.std.specs.BTreeMap.{IsOrdered}
use Rattle.held_locks.specs.HostRuns.{HostCount, Counted}
use Rattle.held_locks.specs.declared.host_runs.HostRuns.TheInside.{Inside}

abbrev pub view_of_counts : Inside → Counted
view_of_counts h = record { counts = map (λ e. let count : HostCount = record { name = e.0.items; runs = e.1 } in count) h.by_host.entries; whole = h.is_whole }

abbrev pub IsKept : Inside → Type 0
IsKept h = IsOrdered (λ x y. slice_cmp nat_cmp x.items y.items) h.by_host
