use Rattle.std.proofs.Common.{◌≡◌, ◌≤◌, ◌+◌, length, vec_len}
use Rattle.definitions.specs.Hosts.{row_cmp}
use Rattle.hosts_db.specs.Places.{put_all}
use Rattle.hosts_db.proofs.memory.put_hosts.Given as goal

-- what is put so far, and then what is left, is all of it; and there is room for what is left
abbrev pub invariant-loop-host : goal.invariant-loop-host
invariant-loop-host l = record {
  all : put_all row_cmp l.hosts.items l.rows.rows ≡ put_all row_cmp l.initial.hosts.items l.initial.rows.rows;
  own : l.rows.own ≡ l.initial.rows.own;
  watches : l.rows.watches ≡ l.initial.rows.watches;
  room : length l.rows.rows + vec_len l.hosts ≤ 4096;
}

abbrev pub decreases-loop-host : goal.decreases-loop-host
decreases-loop-host l = goal.left-loop-host l
