use Rattle.journal_audit.proofs.Auditing.{entry_met, entry_missed}
use Rattle.journal_audit.proofs.met_all.Goals as goal

pub loop-entry-preserved : goal.loop-entry-preserved
loop-entry-preserved c =
    entry_met c.args.entries.now c.loop-entry.entry-index c.entry-item.result c.loop-entry-test.true c.entry-item.is c.args.from c.args.receipts.now c.loop-entry.last c.loop-entry.left.now c.loop-entry.invariant _ c.in_ok-last.ensures.some

pub returns-in_err-last-clause-none : goal.returns-in_err-last-clause-none
returns-in_err-last-clause-none c =
    rw c.from_residual.ensures
    (entry_missed c.args.entries.now c.loop-entry.entry-index c.entry-item.result c.loop-entry-test.true c.entry-item.is c.args.from c.args.receipts.now c.loop-entry.last c.loop-entry.left.now c.loop-entry.invariant c.in_err-last.ensures.none)
