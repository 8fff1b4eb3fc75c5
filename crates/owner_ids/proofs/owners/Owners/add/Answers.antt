use Rattle.std.proofs.Common.{arith, ◌≡◌, Some, None, sym, ap, ◌∙◌, subst, cond}
use Rattle.std.specs.BTreeMap.{get}
use Rattle.std.specs.Ordering.{is_eq}
use Rattle.slab.specs.Slab.{Updates as SlabUpdates}
use Rattle.definitions.specs.Owners.{owner_cmp}
use Rattle.owner_ids.specs.Views.{view_of_owner, view_of_slot, held_cmp}
use Rattle.owner_ids.specs.Names.{names_of_owners, Renames}
use Rattle.owner_ids.specs.Kept.{view_of_owners}
use Rattle.owner_ids.proofs.Slots.{named_slot, renames_from, lists_added, still_nobody, when_ok}
use Rattle.owner_ids.proofs.owners.Owners.add.Goals as goal

renamed : (c : goal.After-insert_reserved) → Renames (names_of_owners (view_of_owners c.self.inside)) (names_of_owners (view_of_owners (record { slots = c.insert_reserved.new.self; numbers = c.insert.new.self; recent = c.self.inside.recent }))) c.vacant_key-place.result (Some (view_of_owner c.args.owner))
renamed c =
    let n : c.insert_reserved.result ≡ c.vacant_key-place.result = c.insert_reserved.ensures.key ∙ sym c.vacant_key-place.ensures.value in
    renames_from c.self.inside.slots.slots c.reserve.new.self c.insert_reserved.new.self c.vacant_key-place.result (Some c.args.owner)
    (ap (λ s. s.slots) c.reserve.ensures.rest_kept)
    (subst (λ k. SlabUpdates c.reserve.new.self c.insert_reserved.new.self k (Some c.args.owner)) n c.insert_reserved.ensures.updates)

free : (c : goal.After-insert_reserved) → names_of_owners (view_of_owners c.self.inside) c.vacant_key-place.result ≡ None
free c = ap (λ s. names_of_owners s c.vacant_key-place.result) (ap (λ s. view_of_owners (record { slots = s; numbers = c.self.inside.numbers; recent = c.self.inside.recent })) (sym c.reserve.ensures.rest_kept)) ∙ named_slot c.reserve.new.self c.vacant_key-place.result ∙ ap view_of_slot c.vacant_key-place.ensures.vacant

pub invariant_of-self-2 : goal.invariant_of-self-2
invariant_of-self-2 c =
    let names = names_of_owners (view_of_owners c.self.inside) in
    let u = when_ok c.insert.result (sym c.is_err.ensures.value ∙ c.if-is_err.false) c.insert.ensures.updates in
    let kept = lists_added names _ (get held_cmp c.self.inside.numbers) (get held_cmp c.insert.new.self) c.args.owner c.vacant_key-place.result
    (record { found = c.self.invariant.found; listed = c.self.invariant.listed })
    (λ k e. c.requires.absent k (ap (λ o. names_of_owners o k) (sym c.self.view_is) ∙ e))
    (free c) (renamed c)
    (λ q. subst (λ z. get held_cmp c.insert.new.self q ≡ cond (is_eq (owner_cmp z (view_of_owner q))) (Some c.vacant_key-place.result) (get held_cmp c.self.inside.numbers q)) c.requires.copies (u.0 q)) in
    record { found = kept.found; listed = kept.listed; nobody = still_nobody names _ c.vacant_key-place.result (Some (view_of_owner c.args.owner)) (renamed c) c.self.invariant.nobody (λ e. absurd (omega (arith, e, c.if-place.false))) }

pub returns-clause-named : goal.returns-clause-named
returns-clause-named c = rw (← c.self.view_is) (renamed c)

pub returns-clause-free : goal.returns-clause-free
returns-clause-free c = rw (← c.self.view_is) (free c)
