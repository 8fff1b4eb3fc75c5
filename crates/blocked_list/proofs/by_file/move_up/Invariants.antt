use Rattle.std.proofs.Common.{◌≡◌, ◌++◌, map, take, drop}
use Rattle.blocked_list.specs.ByFile.{moved_up}
use Rattle.blocked_list.proofs.by_file.move_up.Given as goal

abbrev pub invariant-loop-other : goal.invariant-loop-other
invariant-loop-other l = l.places ≡ map (moved_up l.place) (take l.other-index l.initial.places) ++ drop l.other-index l.initial.places
