use Rattle.std.proofs.Common.{◌≡◌, ◌++◌, take, map}
use Rattle.std.specs.List.{flat_map}
use Rattle.status_pages.specs.Counters.{happening_text, view_of_named_happening}
use Rattle.status_pages.proofs.counters.put_happenings.Given as goal

abbrev pub invariant-loop-happened : goal.invariant-loop-happened
invariant-loop-happened l = l.out.items ≡ l.fn.out.items ++ flat_map (happening_text l.counts) (map view_of_named_happening (take l.happened-index l.happenings))
