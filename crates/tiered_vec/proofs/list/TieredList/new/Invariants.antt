use Rattle.tiered_vec.proofs.Pieces.{AreFirst}
use Rattle.tiered_vec.proofs.list.TieredList.new.Given as goal

abbrev pub invariant-loop-i : goal.invariant-loop-i
invariant-loop-i l = AreFirst l.tiers.items l.i
