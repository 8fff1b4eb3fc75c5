use Rattle.tiered_vec.proofs.Turns.{pull_high, pull_low, pull_both}
use Rattle.tiered_vec.proofs.tier.Tier.pull.Goals as goal

pub returns-then-end-high : goal.returns-then-end-high
returns-then-end-high c = pull_high _ _ c.self.invariant _ c.self.view_is c.args.begin c.args.end c.args.number _ _ c.requires.order c.if-end-high.true c.pull_in.ensures

pub returns-then-high-begin : goal.returns-then-high-begin
returns-then-high-begin c = pull_low _ _ c.self.invariant _ c.self.view_is c.args.begin c.args.end c.args.number _ _ c.if-high-begin.true c.requires.order c.requires.within c.pull_in-then-high-begin.ensures

pub returns : goal.returns
returns c = pull_both _ _ c.self.invariant _ c.self.view_is c.args.begin c.args.end c.args.number _ _ _ _ c.if-high-begin.false c.if-end-high.false c.requires.within c.pull_in-number.ensures c.pull_in-2.ensures
