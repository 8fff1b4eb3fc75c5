use Rattle.tiered_vec.proofs.Pushes.{pushed_within, pushed_through}
use Rattle.tiered_vec.proofs.list.TieredList.push.Goals as goal

pub returns-then-first-last : goal.returns-then-first-last
returns-then-first-last c = pushed_within c.args.self.now c.args.begin c.args.end c.args.number _ _ c.if-first-last.true c.push_cells.ensures.pushed

pub returns : goal.returns
returns c =
    pushed_through c.args.self.now c.args.begin c.args.end c.args.number _ _ _ _ _ _ c.requires.long c.requires.within c.requires.order c.if-first-last.false c.push_cells-number.ensures.pushed c.push_tiers-number.ensures.pushed c.push_cells-2.ensures.pushed
