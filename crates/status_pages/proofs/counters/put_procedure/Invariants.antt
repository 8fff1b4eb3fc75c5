use Rattle.std.proofs.Common.{◌≡◌, ◌++◌, take, map}
use Rattle.std.specs.List.{flat_map}
use Rattle.status_pages.specs.Counters.{call_text, view_of_program, view_of_procedure, view_of_named_outcome}
use Rattle.status_pages.proofs.counters.put_procedure.Given as goal

abbrev pub invariant-loop-got : goal.invariant-loop-got
invariant-loop-got l =
    l.out.items
    ≡ l.fn.out.items ++ flat_map (call_text l.counts (view_of_program l.program) (view_of_procedure l.procedure)) (map view_of_named_outcome (take l.got-index l.outcomes))
