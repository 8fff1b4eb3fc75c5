use Rattle.std.proofs.Common.{◌≡◌, ◌++◌, take, map}
use Rattle.std.specs.List.{flat_map}
use Rattle.status_pages.specs.Counters.{program_text, view_of_program}
use Rattle.status_pages.proofs.counters.put_programs.Given as goal

abbrev pub invariant-loop-program : goal.invariant-loop-program
invariant-loop-program l = l.out.items ≡ l.fn.out.items ++ flat_map (program_text l.counts) (map view_of_program (take l.program-index l.programs))
