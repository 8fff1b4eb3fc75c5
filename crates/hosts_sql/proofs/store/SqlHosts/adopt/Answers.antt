use Rattle.std.proofs.Common.{◌≡◌, sym, ap, subst, ◌∙◌, rules}
use Rattle.sqlite.specs.Held.{state}
use Rattle.hosts_sql.specs.Maps.{hosts_of_rows}
use Rattle.hosts_sql.specs.Tables.{no_schema}
use Rattle.hosts_sql.specs.Wrote.{IsWhole}
use Rattle.hosts_sql.proofs.Create.{shown_fresh}
use Rattle.hosts_sql.proofs.Listed.{none_listed}
use Rattle.hosts_sql.proofs.store.SqlHosts.adopt.Goals as goal

pub invariant_of-result : goal.invariant_of-result
invariant_of-result g c = record {
  kept = λ clean is_open.
      let none : (state g.S.Store c.args.conn).committed.schema ≡ no_schema = search rules in
      ap hosts_of_rows (shown_fresh (state g.S.Store c.args.conn).committed none (c.schema.ensures.live is_open).1) ∙ none_listed ∙ sym c.in-Ok.ensures;
  holds = search rules;
}

pub invariant_of-result-2-clause-holds : goal.invariant_of-result-2-clause-holds
invariant_of-result-2-clause-holds g c clean is_open =
    let done = c.in-Ok-load_all.ensures in
    subst (IsWhole c.in-Ok-version_of.version) (sym (done.same clean)) (done.whole clean)
