use Rattle.std.proofs.Common.{◌≡◌, sym, subst}
use Rattle.std.specs.Bool.{Decides}
use Rattle.definitions.specs.Conflict.{conflicts}
use Rattle.owner_ids.specs.Views.{view_of_owner}
use Rattle.owner_ids.specs.Names.{names_of_owners, IsNumberFor}
use Rattle.range_table.specs.Settings.{mode_at, IsConflict}
use Rattle.held_locks.specs.Asked.{view_of_request}
use Rattle.held_locks.proofs.Strangers.{conflicts_found}
use Rattle.held_locks.proofs.locks.Locks.conflicts.Goals as goal

pub returns : goal.returns
returns g c =
    let names = names_of_owners c.self.inside.owners in
    let held = mode_at (g.R.RangeTable.settings c.self.inside.table) in
    let asker : IsNumberFor names c.asker-asker.result (view_of_owner c.args.wanted.now.owner.now) = subst (λ h. IsNumberFor (names_of_owners h.names) c.asker-asker.result (view_of_owner c.args.wanted.now.owner.now)) (sym c.self.view_is) c.asker-asker.ensures in
    subst (λ h. c.is_blocked.result ≡ conflicts h.settings (view_of_request c.args.wanted.now)) c.self.view_is
    (conflicts_found names held c.self.inside.settings.items c.self.invariant.tied.stands c.asker-asker.result c.args.wanted.now c.args.wanted.now.range.ordered c.is_blocked.result asker
    (subst (λ w. Decides c.is_blocked.result (IsConflict held w)) c.by_number.ensures c.is_blocked.ensures))
