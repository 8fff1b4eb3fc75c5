use Rattle.std.proofs.Common.{◌≡◌, map, take}
use Rattle.status_lists.specs.Views.{view_of_host_row, runs_shown, runs_of_host}
use Rattle.status_lists.proofs.lists.hosts_of.Given as goal

abbrev pub invariant-loop-host : goal.invariant-loop-host
invariant-loop-host g l = record {
  rows : map view_of_host_row l.rows.items ≡ take l.host-index l.hosts;
  runs : map runs_shown l.rows.items ≡ take l.host-index (map (runs_of_host l.world.world.settings) l.hosts);
}
