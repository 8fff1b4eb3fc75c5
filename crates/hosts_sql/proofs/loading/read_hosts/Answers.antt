use Rattle.std.proofs.Common.{map, sym, ap, subst, ◌∙◌, arith, rules, IsTrue}
use Rattle.std.specs.FinMap.{entries}
use Rattle.sqlite.specs.Held.{state}
use Rattle.definitions.specs.Hosts.{Hosts}
use Rattle.hosts_sql.specs.Maps.{host_row}
use Rattle.sqlite.specs.Given.{IsPlain}
use Rattle.sqlite.specs.Listing.{understood}
use Rattle.sql_transactions.proofs.Results.{on_both, on_then}
use Rattle.hosts_sql.proofs.Reading.{Tells-alike, hosts_plain_at, hosts_from, own_hosts_from, fitting_hosts_from}
use Rattle.hosts_sql.proofs.loading.read_hosts.Goals as goal

pub read-requires : goal.read-requires
read-requires g c = record {
  plain = λ clean open_now.
      let db = (state g.S.Store c.args.conn.now).committed in
      subst (λ sql. IsPlain (understood db.schema sql)) (sym c.hosts_query.ensures) (hosts_plain_at c.args.version db (c.requires.tables clean open_now));
}

pub returns-clause-ok : goal.returns-clause-ok
returns-clause-ok g c clean =
    let old = state g.S.Store c.args.conn.now in
    let is = c.requires.tables (omega (arith, clean, c.read.ensures.crash.clean)) (c.in-Ok.ensures.same clean).0.was_open in
    let shown = Tells-alike old.committed _ _ _ _ c.hosts_query.ensures c.deref-2.ensures.value (c.in-Ok.ensures.ok clean) in
    on_both c.keep_hosts.result c.keep_hosts.ensures.ok c.keep_hosts.ensures.apart (λ made apart. made ∙ ap (λ m. record c.args.kept.now { rows = map host_row (entries m) }) (hosts_from c.args.version old.committed c.deref-2.result.now is shown apart))

pub returns-clause-own : goal.returns-clause-own
returns-clause-own g c clean =
    let old = state g.S.Store c.args.conn.now in
    let is = c.requires.tables (omega (arith, clean, c.read.ensures.crash.clean)) (c.in-Ok.ensures.same clean).0.was_open in
    let shown = Tells-alike old.committed _ _ _ _ c.hosts_query.ensures c.deref.ensures.value (c.in-Ok.ensures.ok clean) in
    let passed : IsTrue c.are_own_hosts.result = search rules in
    on_then c.keep_hosts.result c.keep_hosts.ensures.ok (λ _. own_hosts_from c.args.version old.committed c.deref.result.now is shown (c.are_own_hosts.ensures passed))

pub returns-clause-watches : goal.returns-clause-watches
returns-clause-watches g c = on_then c.keep_hosts.result c.keep_hosts.ensures.ok (λ made. ap (λ (h : Hosts). h.watches) made)

pub returns-clause-numbers : goal.returns-clause-numbers
returns-clause-numbers g c clean =
    let old = state g.S.Store c.args.conn.now in
    let is = c.requires.tables (omega (arith, clean, c.read.ensures.crash.clean)) (c.in-Ok.ensures.same clean).0.was_open in
    let shown = Tells-alike old.committed _ _ _ _ c.hosts_query.ensures c.deref-2.ensures.value (c.in-Ok.ensures.ok clean) in
    on_then c.keep_hosts.result c.keep_hosts.ensures.numbers (λ fit. fitting_hosts_from c.args.version old.committed c.deref-2.result.now is shown fit)
