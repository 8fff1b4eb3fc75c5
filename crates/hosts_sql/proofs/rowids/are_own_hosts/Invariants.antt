use Rattle.std.proofs.Common.{None, drop}
use Rattle.hosts_sql.specs.Own.{is_host, Rises}
use Rattle.hosts_sql.proofs.rowids.are_own_hosts.Given as goal

-- what is left rises from the last rowid on
abbrev pub invariant-loop-at : goal.invariant-loop-at
invariant-loop-at l = Rises is_host l.last (drop l.at l.rows) → Rises is_host None l.rows
