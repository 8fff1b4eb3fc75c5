use Rattle.tiered_vec.proofs.Pushes.{pulled_within, pulled_through}
use Rattle.tiered_vec.proofs.list.TieredList.pull.Goals as goal

pub returns-then-first-last : goal.returns-then-first-last
returns-then-first-last c = pulled_within c.args.self.now c.args.begin c.args.end c.args.number _ _ c.if-first-last.true c.pull_cells.ensures.pulled

pub returns : goal.returns
returns c =
    pulled_through c.args.self.now c.args.begin c.args.end c.args.number _ _ _ _ _ _ c.requires.long c.requires.within c.requires.order c.if-first-last.false c.pull_cells-number.ensures.pulled c.pull_tiers-number.ensures.pulled c.pull_cells-2.ensures.pulled
