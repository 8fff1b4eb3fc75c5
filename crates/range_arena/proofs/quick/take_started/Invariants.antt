use Rattle.std.proofs.Common.{◌≡◌}
use Rattle.std.specs.List.{filter}
use Rattle.range_table.proofs.Edits.{stays}
use Rattle.range_arena.proofs.quick.take_started.Given as goal

abbrev pub invariant-loop : goal.invariant-loop
invariant-loop l = filter (stays l.range) l.runs.list ≡ filter (stays l.range) l.initial.runs.list
