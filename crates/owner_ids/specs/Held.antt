-- Owners in memory have a total order.
use Rattle.std.proofs.lemmas.Cmp.{on_total, eq_by_cmp_equiv}
use Rattle.std.specs.Cmp.{IsTotalOrder, IsEquivalence}
use Rattle.definitions.proofs.OwnerLaws.{owner_total}
use Rattle.owner_ids.specs.Views.{view_of_owner, held_cmp, same_held}

pub held_total : IsTotalOrder held_cmp
held_total = on_total view_of_owner owner_total

pub held_equiv : IsEquivalence same_held
held_equiv = eq_by_cmp_equiv held_total
