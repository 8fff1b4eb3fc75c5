use Rattle.std.proofs.Common.{◌≤◌, length, None, sym, subst, rules}
use Rattle.hosts_sql.specs.Own.{is_host, Rises}
use Rattle.hosts_sql.proofs.Lists.{past_end}
use Rattle.hosts_sql.proofs.OwnIds.{rising_own}
use Rattle.hosts_sql.proofs.rowids.are_own_hosts.Goals as goal

pub returns : goal.returns
returns c passed =
    let end : length c.args.rows.now ≤ c.loop-at.at = search rules in
    rising_own is_host None c.args.rows.now (c.loop-at.invariant (subst (λ xs. Rises is_host c.loop-at.last xs) (sym (past_end c.args.rows.now c.loop-at.at end)) tt))
