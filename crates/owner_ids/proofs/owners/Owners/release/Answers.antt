use Rattle.std.proofs.Common.{◌≡◌, Some, None, refl, ap, ◌∙◌}
use Rattle.std.specs.BTreeMap.{get}
use Rattle.owner_ids.specs.Views.{view_of_owner, view_of_slot, held_cmp}
use Rattle.owner_ids.specs.Names.{names_of_owners}
use Rattle.owner_ids.specs.Kept.{view_of_owners}
use Rattle.owner_ids.proofs.Slots.{named_slot, renames_from, lists_removed, still_nobody}
use Rattle.owner_ids.proofs.owners.Owners.release.Goals as goal

pub invariant_of-self : goal.invariant_of-self
invariant_of-self c =
    let names = names_of_owners (view_of_owners c.self.inside) in
    let here : names c.args.number ≡ Some (view_of_owner c.remove-owner.result) = named_slot c.self.inside.slots c.args.number ∙ ap view_of_slot c.remove-owner.ensures.value in
    let r = renames_from c.self.inside.slots.slots c.self.inside.slots c.remove-owner.new.self c.args.number None refl c.remove-owner.ensures.updates in
    let kept = lists_removed names _ (get held_cmp c.self.inside.numbers) (get held_cmp c.remove.new.self) c.remove-owner.result c.args.number (record { found = c.self.invariant.found; listed = c.self.invariant.listed }) here r c.remove.ensures.updates.0 in
    record { found = kept.found; listed = kept.listed; nobody = still_nobody names _ c.args.number None r c.self.invariant.nobody (λ e. r.there) }

pub returns : goal.returns
returns c =
    rw (← c.self.view_is) (renames_from c.self.inside.slots.slots c.self.inside.slots c.remove-owner.new.self c.args.number None refl c.remove-owner.ensures.updates)
