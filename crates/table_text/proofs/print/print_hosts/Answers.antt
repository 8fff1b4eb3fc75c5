use Rattle.std.proofs.Common.{refl}
use Rattle.std.proofs.lemmas.Option.{slice_get_read}
use Rattle.local_ops.specs.Texts.{host_line}
use Rattle.table_text.specs.Texts.{rows_text}
use Rattle.table_text.proofs.Passing.{WroteAllBut-item, Wrote-rest, failed-item, all_items}
use Rattle.table_text.proofs.print.print_hosts.Goals as goal

pub loop-row-preserved : goal.loop-row-preserved
loop-row-preserved g c =
    let rows = c.args.rows.now in
    WroteAllBut-item _ _ _ _ _ host_line rows c.loop-row.row-index c.row-item.result (slice_get_read rows _ _ _ refl c.loop-row-test.true c.row-item.is)
    c.loop-row.invariant c.in_ok-put_host.ensures

pub returns-in_err-put_host : goal.returns-in_err-put_host
returns-in_err-put_host g c =
    let rows = c.args.rows.now in
    failed-item _ _ _ c.from_residual.result _ host_line rows c.loop-row.row-index c.row-item.result (slice_get_read rows _ _ _ refl c.loop-row-test.true c.row-item.is)
    c.from_residual.ensures.0 c.loop-row.invariant c.in_err-put_host.ensures

pub returns : goal.returns
returns g c =
    let rows = c.args.rows.now in
    Wrote-rest _ _ _ c.write_whole.result c.loop-row.block c.as_slice.result.now (rows_text rows) c.as_slice.ensures
    (all_items _ _ _ host_line rows c.loop-row.row-index c.loop-row-test.false c.loop-row.invariant) c.write_whole.ensures
