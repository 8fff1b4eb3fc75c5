use Rattle.std.proofs.Common.{Some, Ok, Err, sym, ap, subst, ◌∙◌}
use Rattle.definitions.specs.Bytes.{IsAscending, first_that, is_any}
use Rattle.definitions.specs.Hosts.{row_cmp, is_named}
use Rattle.hosts_db.proofs.RowPlaces.{row_at, row_gap, has_row_at}
use Rattle.hosts_db.proofs.host_rows.HostRows.host.Goals as goal

pub returns-in-Ok-clause-value : goal.returns-in-Ok-clause-value
returns-in-Ok-clause-value c =
    let same = c.hosts-hosts.ensures.value in
    let rise = subst (IsAscending row_cmp) (sym same) c.hosts-hosts.ensures.in_order.rows in
    ap Some c.index-hosts-at.is ∙ sym (row_at c.hosts-hosts.result.now c.args.name.now rise c.in-Ok.at c.index-hosts-at.result c.in-Ok.ensures) ∙ ap (first_that (is_named c.args.name.now)) same

pub returns-in-Err-clause-value : goal.returns-in-Err-clause-value
returns-in-Err-clause-value c =
    let same = c.hosts-hosts.ensures.value in
    let rise = subst (IsAscending row_cmp) (sym same) c.hosts-hosts.ensures.in_order.rows in
    sym (row_gap c.hosts-hosts.result.now c.args.name.now rise _ c.in-Err.ensures) ∙ ap (first_that (is_named c.args.name.now)) same

pub returns-in-Ok-clause-has : goal.returns-in-Ok-clause-has
returns-in-Ok-clause-has c =
    let same = c.hosts-hosts.ensures.value in
    let rise = subst (IsAscending row_cmp) (sym same) c.hosts-hosts.ensures.in_order.rows in
    has_row_at c.hosts-hosts.result.now c.args.name.now rise (Ok c.in-Ok.at) c.in-Ok.ensures ∙ ap (is_any (is_named c.args.name.now)) same

pub returns-in-Err-clause-has : goal.returns-in-Err-clause-has
returns-in-Err-clause-has c =
    let same = c.hosts-hosts.ensures.value in
    let rise = subst (IsAscending row_cmp) (sym same) c.hosts-hosts.ensures.in_order.rows in
    has_row_at c.hosts-hosts.result.now c.args.name.now rise (Err c.in-Err.field-0) c.in-Err.ensures ∙ ap (is_any (is_named c.args.name.now)) same
