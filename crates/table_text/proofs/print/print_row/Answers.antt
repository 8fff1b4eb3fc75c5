use Rattle.std.proofs.Common.{◌≤◌, ◌∙◌, sym, subst, length}
use Rattle.definitions.specs.Starts.{runs}
use Rattle.held_locks.specs.Asked.{view_of_lock_holder}
use Rattle.local_ops.specs.Texts.{run_line}
use Rattle.table_text.specs.Texts.{runs_text}
use Rattle.table_text.proofs.Passing.{WroteAllBut-item, Wrote-rest, failed-item, all_items}
use Rattle.table_text.proofs.Pieces.{length-runs}
use Rattle.table_text.proofs.print.print_row.Goals as goal

pub loop-i-preserved : goal.loop-i-preserved
loop-i-preserved g c =
    WroteAllBut-item _ _ _ _ _ run_line (runs c.args.locks.now.settings) c.loop-i.i (view_of_lock_holder c.holder.result) c.holder.ensures c.loop-i.invariant c.in_ok-put_run.ensures

pub returns-in_err-put_run : goal.returns-in_err-put_run
returns-in_err-put_run g c =
    failed-item _ _ _ c.from_residual.result _ run_line (runs c.args.locks.now.settings) c.loop-i.i (view_of_lock_holder c.holder.result) c.holder.ensures c.from_residual.ensures.0
    c.loop-i.invariant c.in_err-put_run.ensures

pub returns : goal.returns
returns g c =
    let settings = c.args.locks.now.settings in
    let past : length (runs settings) ≤ c.loop-i.i = subst (λ n. n ≤ c.loop-i.i) (c.used-i-end.ensures ∙ sym (length-runs settings)) c.loop-i-test.false in
    Wrote-rest _ _ _ c.write_whole.result c.loop-i.block c.as_slice.result.now (runs_text (runs settings)) c.as_slice.ensures
    (all_items _ _ _ run_line (runs settings) c.loop-i.i past c.loop-i.invariant) c.write_whole.ensures
