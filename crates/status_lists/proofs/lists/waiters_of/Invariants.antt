use Rattle.std.proofs.Common.{◌≡◌, map, take}
use Rattle.lock_state.specs.Listed.{request_wanted}
use Rattle.status_lists.specs.Views.{request_of_row}
use Rattle.status_lists.proofs.lists.waiters_of.Given as goal

abbrev pub invariant-loop-place : goal.invariant-loop-place
invariant-loop-place g l = map request_of_row l.rows.items ≡ take l.place (map request_wanted l.world.world.waiters)
