use Rattle.std.proofs.Common.{◌≡◌, Some, sym, subst}
use Rattle.owner_ids.specs.Views.{view_of_owner}
use Rattle.owner_ids.specs.Names.{names_of_owners}
use Rattle.held_locks.specs.Held.{HoldsNothing}
use Rattle.held_locks.proofs.Ties.{tied_released, number_holds_nothing}
use Rattle.held_locks.proofs.locks.Locks.forget_idle.Goals as goal

pub invariant_of-self : goal.invariant_of-self
invariant_of-self g c =
    let ns = (g.R.RangeTable.settings c.self.inside.table) in
    let names = c.self.inside.owners in
    let settings = c.self.inside.settings.items in
    let n = c.in-Some.number in
    let x = view_of_owner c.args.owner.now in
    let nothing = subst (λ h. HoldsNothing h x) (sym c.self.view_is) c.in-Some.ensures.idle in
    let named_x = subst (λ h. names_of_owners h.names n ≡ Some x) (sym c.self.view_is) c.in-Some.ensures.number in
    record { tied = tied_released ns c.self.inside.counts.items names c.release.new.self settings n c.self.invariant.tied (number_holds_nothing ns c.self.inside.counts.items names settings n x c.self.invariant.tied named_x nothing) c.release.ensures; by_host = c.self.invariant.by_host }
