use Rattle.std.proofs.Common.{◌≡◌, ◌++◌, take, map}
use Rattle.std.specs.List.{flat_map}
use Rattle.status_pages.specs.Counters.{event_text, view_of_named_happening, view_of_status}
use Rattle.status_pages.proofs.counters.put_happening.Given as goal

abbrev pub invariant-loop-status : goal.invariant-loop-status
invariant-loop-status l =
    l.out.items ≡ l.fn.out.items ++ flat_map (event_text l.counts (view_of_named_happening l.happened)) (map view_of_status (take l.status-index l.statuses))
