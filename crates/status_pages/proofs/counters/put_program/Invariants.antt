use Rattle.std.proofs.Common.{◌≡◌, ◌++◌, take, map}
use Rattle.std.specs.List.{flat_map}
use Rattle.status_pages.specs.Counters.{procedure_text, view_of_program, view_of_procedure}
use Rattle.status_pages.proofs.counters.put_program.Given as goal

abbrev pub invariant-loop-procedure : goal.invariant-loop-procedure
invariant-loop-procedure l =
    l.out.items
    ≡ l.fn.out.items ++ flat_map (procedure_text l.counts (view_of_program l.program)) (map view_of_procedure (take l.procedure-index l.program.procedures.now))
