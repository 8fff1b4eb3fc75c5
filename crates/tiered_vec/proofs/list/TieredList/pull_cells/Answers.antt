use Rattle.std.proofs.Common.{◌+◌, ◌*◌, arith}
use Rattle.tiered_vec.proofs.Pieces.{length_seen}
use Rattle.tiered_vec.proofs.Pushes.{pulled_in_tier, length-pulled}
use Rattle.tiered_vec.proofs.list.TieredList.pull_cells.Goals as goal

pub returns-clause-pulled : goal.returns-clause-pulled
returns-clause-pulled c = pulled_in_tier _ _ c.args.tier c.args.begin c.args.end c.args.number _ _ _ c.self.invariant c.self.view_is c.index_mut.ensures.value c.requires.order c.if-begin-end.false c.requires.within c.requires.inside c.pull.ensures

pub returns-clause-long : goal.returns-clause-long
returns-clause-long c = length-pulled c.args.self.now (256 * c.args.tier + c.args.begin) (256 * c.args.tier + c.args.end) _ _ _ (omega arith) (omega (arith, length_seen _ _ c.self.invariant c.self.view_is)) (returns-clause-pulled c)
