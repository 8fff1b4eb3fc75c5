use Rattle.tiered_vec.proofs.Pushes.{pulled_tier}
use Rattle.tiered_vec.proofs.list.TieredList.push_back.Goals as goal

pub returns : goal.returns
returns c = pulled_tier _ _ c.args.tier c.args.number _ _ _ c.self.invariant c.self.view_is c.requires c.index_mut.ensures.value c.push_back.ensures
