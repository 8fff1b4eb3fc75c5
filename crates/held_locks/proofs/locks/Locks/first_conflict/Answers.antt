use Rattle.std.proofs.Common.{Some, sym, ap, ◌∙◌, subst}
use Rattle.definitions.specs.Starts.{first_conflict}
use Rattle.owner_ids.specs.Views.{view_of_owner}
use Rattle.owner_ids.specs.Names.{names_of_owners, number_cmp, IsNumberFor}
use Rattle.range_table.specs.Settings.{mode_at, IsFirstConflict}
use Rattle.held_locks.specs.Asked.{view_of_request}
use Rattle.held_locks.proofs.Strangers.{first_found, shown_as, none_as}
use Rattle.held_locks.proofs.locks.Locks.first_conflict.Goals as goal

pub returns-in-Some : goal.returns-in-Some
returns-in-Some g c =
    let names = names_of_owners c.self.inside.owners in
    let held = mode_at (g.R.RangeTable.settings c.self.inside.table) in
    let asker : IsNumberFor names c.asker-asker.result (view_of_owner c.args.wanted.now.owner.now) = subst (λ h. IsNumberFor (names_of_owners h.names) c.asker-asker.result (view_of_owner c.args.wanted.now.owner.now)) (sym c.self.view_is) c.asker-asker.ensures in
    let found = first_found names held c.self.inside.settings.items c.self.invariant.tied.stands c.asker-asker.result c.args.wanted.now c.args.wanted.now.range.ordered c.first_conflict.result asker (subst (λ w. IsFirstConflict (number_cmp names) held w c.first_conflict.result) c.by_number.ensures c.first_conflict.ensures) in
    rw (← c.self.view_is) (ap Some c.of.ensures ∙ shown_as names c.first_conflict.result (first_conflict c.self.inside.settings.items (view_of_request c.args.wanted.now)) c.in-Some.run' (view_of_owner c.get.result.now) c.in-Some.is c.get.ensures found)

pub returns-in-None : goal.returns-in-None
returns-in-None g c =
    let names = names_of_owners c.self.inside.owners in
    let held = mode_at (g.R.RangeTable.settings c.self.inside.table) in
    let asker : IsNumberFor names c.asker-asker.result (view_of_owner c.args.wanted.now.owner.now) = subst (λ h. IsNumberFor (names_of_owners h.names) c.asker-asker.result (view_of_owner c.args.wanted.now.owner.now)) (sym c.self.view_is) c.asker-asker.ensures in
    let found = first_found names held c.self.inside.settings.items c.self.invariant.tied.stands c.asker-asker.result c.args.wanted.now c.args.wanted.now.range.ordered c.first_conflict.result asker (subst (λ w. IsFirstConflict (number_cmp names) held w c.first_conflict.result) c.by_number.ensures c.first_conflict.ensures) in
    rw (← c.self.view_is) (none_as names c.first_conflict.result (first_conflict c.self.inside.settings.items (view_of_request c.args.wanted.now)) c.in-None.is found)
