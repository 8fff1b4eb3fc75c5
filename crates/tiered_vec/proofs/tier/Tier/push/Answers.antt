use Rattle.tiered_vec.proofs.Turns.{push_high, push_low, push_both}
use Rattle.tiered_vec.proofs.tier.Tier.push.Goals as goal

pub returns-then-end-high : goal.returns-then-end-high
returns-then-end-high c = push_high _ _ c.self.invariant _ c.self.view_is c.args.begin c.args.end c.args.number _ _ c.requires.order c.if-end-high.true c.push_in.ensures

pub returns-then-high-begin : goal.returns-then-high-begin
returns-then-high-begin c = push_low _ _ c.self.invariant _ c.self.view_is c.args.begin c.args.end c.args.number _ _ c.if-high-begin.true c.requires.order c.requires.within c.push_in-then-high-begin.ensures

pub returns : goal.returns
returns c = push_both _ _ c.self.invariant _ c.self.view_is c.args.begin c.args.end c.args.number _ _ _ _ c.if-high-begin.false c.if-end-high.false c.requires.within c.push_in-number.ensures c.push_in-2.ensures
