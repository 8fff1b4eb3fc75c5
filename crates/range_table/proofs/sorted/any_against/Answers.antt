use Rattle.std.proofs.Common.{sym, ◌∙◌}
use Rattle.range_table.specs.Settings.{is_against}
use Rattle.range_table.proofs.InWay.{any_taken, any_passed}
use Rattle.range_table.proofs.sorted.any_against.Goals as goal

pub returns-then-is_against : goal.returns-then-is_against
returns-then-is_against c = any_taken (is_against c.args.owner c.args.wanted.now) c.args.runs.now c.args.begin c.args.end c.loop-at.at c.get.result.now c.loop-at.auto.at c.loop-at-test.true c.requires.within c.get.ensures c.loop-at.invariant (sym c.is_against.ensures ∙ c.if-is_against.true)

pub loop-at-preserved : goal.loop-at-preserved
loop-at-preserved c = any_passed (is_against c.args.owner c.args.wanted.now) c.args.runs.now c.args.begin c.args.end c.loop-at.at c.get.result.now c.loop-at.auto.at c.loop-at-test.true c.requires.within c.get.ensures c.loop-at.invariant (sym c.is_against.ensures ∙ c.if-is_against.false)
