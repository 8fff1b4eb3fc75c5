use Rattle.std.proofs.Common.{◌≡◌, ◌≤◌, length, map, take, vec_len, vec_capacity}
use Rattle.std.specs.List.{filter}
use Rattle.definitions.specs.Answer.{status_callback}
use Rattle.definitions.specs.Bytes.{same_bytes}
use Rattle.definitions.specs.Hosts.{Watch}
use Rattle.lock_state.proofs.world.World.status_callbacks.Given as goal

abbrev pub invariant-loop-watch : goal.invariant-loop-watch
invariant-loop-watch g l = record {
  callbacks : l.callbacks.items ≡ map (status_callback l.state) (filter (λ (w : Watch). same_bytes w.mon_name l.name) (take l.watch-index l.watches));
  within : l.watch-index ≤ length l.watches;
  len : vec_len l.callbacks ≡ length (filter (λ (w : Watch). same_bytes w.mon_name l.name) (take l.watch-index l.watches));
  room : length (filter (λ (w : Watch). same_bytes w.mon_name l.name) l.watches) ≤ vec_capacity l.callbacks;
}
