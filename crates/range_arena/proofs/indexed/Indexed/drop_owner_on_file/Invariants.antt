use Rattle.std.proofs.Common.{◌≡◌, length}
use Rattle.std.specs.List.{filter}
use Rattle.range_arena.proofs.OwnersRuns.{others}
use Rattle.range_arena.proofs.indexed.Indexed.drop_owner_on_file.Given as goal

abbrev pub invariant-loop-run : goal.invariant-loop-run
invariant-loop-run l = filter (others l.range) l.self.list ≡ filter (others l.range) l.initial.self.list

abbrev pub decreases-loop-run : goal.decreases-loop-run
decreases-loop-run l = length l.self.list
