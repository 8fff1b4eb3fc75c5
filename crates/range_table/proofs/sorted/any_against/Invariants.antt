use Rattle.std.proofs.Common.{◌≡◌, ◌-◌, drop}
use Rattle.std.specs.List.{list_any}
use Rattle.range_table.specs.Settings.{is_against}
use Rattle.range_table.proofs.Searches.{part}
use Rattle.range_table.proofs.sorted.any_against.Given as goal

abbrev pub invariant-loop-at : goal.invariant-loop-at
invariant-loop-at l =
    list_any (is_against l.owner l.wanted) (drop (l.at - l.begin) (part l.begin (l.end - l.begin) l.runs))
    ≡ list_any (is_against l.owner l.wanted) (part l.begin (l.end - l.begin) l.runs)
