use Rattle.std.proofs.Common.{◌≡◌, ◌≤◌, length, map, take, vec_len, vec_capacity}
use Rattle.definitions.specs.World.{restart_callback}
use Rattle.lock_state.proofs.world.World.notices.Given as goal

abbrev pub invariant-loop-row : goal.invariant-loop-row
invariant-loop-row g l = record {
  callbacks : l.callbacks.items ≡ map (restart_callback l.self.world.own_name l.own) (take l.row-index l.rows);
  within : l.row-index ≤ length l.rows;
  len : vec_len l.callbacks ≡ l.row-index;
  room : length l.rows ≤ vec_capacity l.callbacks;
}
