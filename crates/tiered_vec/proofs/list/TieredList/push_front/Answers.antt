use Rattle.tiered_vec.proofs.Pushes.{pushed_tier}
use Rattle.tiered_vec.proofs.list.TieredList.push_front.Goals as goal

pub returns : goal.returns
returns c = pushed_tier _ _ c.args.tier c.args.number _ _ _ c.self.invariant c.self.view_is c.requires c.index_mut.ensures.value c.push_front.ensures
