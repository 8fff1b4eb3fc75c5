use Rattle.std.proofs.Common.{◌+◌, ◌*◌, arith}
use Rattle.tiered_vec.proofs.Pieces.{length_seen}
use Rattle.tiered_vec.proofs.Pushes.{pushed_in_tier, length-pushed}
use Rattle.tiered_vec.proofs.list.TieredList.push_cells.Goals as goal

pub returns-clause-pushed : goal.returns-clause-pushed
returns-clause-pushed c = pushed_in_tier _ _ c.args.tier c.args.begin c.args.end c.args.number _ _ _ c.self.invariant c.self.view_is c.index_mut.ensures.value c.requires.order c.if-begin-end.false c.requires.within c.requires.inside c.push.ensures

pub returns-clause-long : goal.returns-clause-long
returns-clause-long c = length-pushed c.args.self.now (256 * c.args.tier + c.args.begin) (256 * c.args.tier + c.args.end) _ _ _ (omega arith) (omega (arith, length_seen _ _ c.self.invariant c.self.view_is)) (returns-clause-pushed c)
