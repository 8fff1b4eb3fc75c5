use Rattle.std.proofs.Common.{sym, ◌∙◌}
use Rattle.definitions.specs.Hosts.{Hosts}
use Rattle.hosts_sql.proofs.Commits.{commits_hosts}
use Rattle.hosts_sql.proofs.AsKept.{left_is}
use Rattle.hosts_sql.proofs.store.SqlHostsHostStore.start.Goals as goal

pub returns-clause-crash : goal.returns-clause-crash
returns-clause-crash g c left may =
    rw (c.next_own_state-own.ensures, c.own.ensures.value) at (left_is (λ (h : Hosts). record h { own = c.next_own_state-own.result }) c.args.self.now.rows left c.args.self.now.kept (g.met.S.Store.settled c.write_start.new.conn.store) (sym c.is_err.ensures.value ∙ c.if-is_err.false) (commits_hosts c.write_start.result c.write_start.ensures.ok c.write_start.ensures.crash) may)
