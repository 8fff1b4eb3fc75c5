use Rattle.std.proofs.Common.{◌≡◌, refl, sym, subst}
use Rattle.definitions.specs.Quotas.{quotas_of}
use Rattle.definitions.specs.Waits.{without_waiters_on}
use Rattle.owner_ids.specs.Views.{view_of_owner}
use Rattle.owner_ids.specs.Names.{names_of_owners}
use Rattle.blocked_list.specs.Waiting.{AreNamed, waiters_by}
use Rattle.lock_state.proofs.Closed.{whole_closed}
use Rattle.lock_state.proofs.world.World.close.Goals as goal

pub drop_waiters-requires : goal.drop_waiters-requires
drop_waiters-requires g c = record {
  distinct = c.parts.ensures.stands.distinct;
  named = subst (λ ns. AreNamed (names_of_owners ns) c.self.inside.slots.waiters) (sym c.parts.ensures.names) c.self.invariant.in_use;
}

pub invariant_of-self : goal.invariant_of-self
invariant_of-self g c =
    let file = c.args.file.now in
    let x = view_of_owner c.args.owner.now in
    let slots = c.self.inside.slots in
    let left = c.drop_waiters.new.slots in
    let by = subst (λ ns. waiters_by (names_of_owners ns) left.waiters ≡ without_waiters_on file x (waiters_by (names_of_owners ns) slots.waiters)) c.parts.ensures.names c.drop_waiters.ensures.by in
    let in_use = subst (λ ns. AreNamed (names_of_owners ns) left.waiters) c.parts.ensures.names c.drop_waiters.ensures.named in
    rw (c.drop_owner_on_file.ensures.settings, c.drop_owner_on_file.ensures.names, c.after_change-self-inside.ensures, c.whole.ensures)
    (whole_closed c.self.inside.locks.names file x c.self.inside.locks.settings slots left c.self.inside.calls (quotas_of (g.S.HostStore.rows c.self.inside.store)) c.self.inside.unsettled c.may_free-was_held.result c.self.invariant c.close_frees_own_bytes.ensures c.may_free-was_held.ensures by in_use c.drop_waiters.ensures.calls)

pub returns-clause-world : goal.returns-clause-world
returns-clause-world g c =
    let file = c.args.file.now in
    let x = view_of_owner c.args.owner.now in
    let slots = c.self.inside.slots in
    let left = c.drop_waiters.new.slots in
    let by = subst (λ ns. waiters_by (names_of_owners ns) left.waiters ≡ without_waiters_on file x (waiters_by (names_of_owners ns) slots.waiters)) c.parts.ensures.names c.drop_waiters.ensures.by in
    rw (← c.self.view_is) (rw (c.drop_owner_on_file.ensures.settings, c.drop_owner_on_file.ensures.names, by) refl)
