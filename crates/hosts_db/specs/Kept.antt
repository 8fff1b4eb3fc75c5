-- What is always true of the rows in memory.
use Rattle.std.specs.Prelude.{ℕ, ◌<◌, ◌≤◌}
use Rattle.definitions.specs.Hosts.{Hosts, AreInOrder}

-- in order of key, with room for as many as there may be
pub record IsKept (hosts : Hosts) (host_count host_room watch_count watch_room : ℕ) : Type 0 where
  pub own_fits : hosts.own < 2147483648
  pub in_order : AreInOrder hosts
  pub few_hosts : host_count ≤ 4096
  pub host_places : 4096 ≤ host_room
  pub few_watches : watch_count ≤ 1024
  pub watch_places : 1024 ≤ watch_room
