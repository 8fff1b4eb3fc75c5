use Rattle.std.proofs.Common.{ap, sym, ◌∙◌}
use Rattle.journal_audit.specs.Audits.{meet_all}
use Rattle.journal_audit.proofs.Auditing.{segment_met, segment_missed}
use Rattle.journal_audit.proofs.follow.Goals as goal

pub loop-segment-preserved : goal.loop-segment-preserved
loop-segment-preserved g c =
    segment_met c.args.segments.now c.loop-segment.segment-index c.segment-item.result c.loop-segment-test.true c.segment-item.is c.args.receipts.now c.loop-segment.last c.loop-segment.left.now c.loop-segment.invariant _
    (ap (meet_all c.loop-segment.last c.loop-segment.left.now) (sym c.entries.ensures) ∙ c.in_ok-last.ensures.some)

pub returns-in_err-last-clause-none : goal.returns-in_err-last-clause-none
returns-in_err-last-clause-none g c =
    rw c.from_residual.ensures
    (segment_missed c.args.segments.now c.loop-segment.segment-index c.segment-item.result c.loop-segment-test.true c.segment-item.is c.args.receipts.now c.loop-segment.last c.loop-segment.left.now c.loop-segment.invariant
    (ap (meet_all c.loop-segment.last c.loop-segment.left.now) (sym c.entries.ensures) ∙ c.in_err-last.ensures.none))
