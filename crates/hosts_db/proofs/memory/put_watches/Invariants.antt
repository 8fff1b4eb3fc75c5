use Rattle.std.proofs.Common.{◌≡◌, ◌≤◌, ◌+◌, length, vec_len}
use Rattle.definitions.specs.Hosts.{watch_cmp}
use Rattle.hosts_db.specs.Places.{put_all}
use Rattle.hosts_db.proofs.memory.put_watches.Given as goal

-- what is put so far, and then what is left, is all of it; and there is room for what is left
abbrev pub invariant-loop-watch : goal.invariant-loop-watch
invariant-loop-watch l = record {
  all : put_all watch_cmp l.watches.items l.rows.watches ≡ put_all watch_cmp l.initial.watches.items l.initial.rows.watches;
  own : l.rows.own ≡ l.initial.rows.own;
  hosts : l.rows.rows ≡ l.initial.rows.rows;
  room : length l.rows.watches + vec_len l.watches ≤ 1024;
}

abbrev pub decreases-loop-watch : goal.decreases-loop-watch
decreases-loop-watch l = goal.left-loop-watch l
