use Rattle.std.proofs.Common.{refl}
use Rattle.definitions.specs.Quotas.{quotas_of}
use Rattle.lock_state.proofs.Kept.{kept_all, waiters_kept, whole_kept}
use Rattle.lock_state.proofs.world.World.admit.Goals as goal

pub invariant_of-self : goal.invariant_of-self
invariant_of-self g c =
    let names = c.self.inside.locks.names in
    let after = c.admit.new.self.names in
    let slots = c.self.inside.slots in
    let kept = kept_all names after c.admit.ensures.names slots.waiters c.self.invariant.in_use in
    rw c.admit.ensures.settings (whole_kept names after c.self.inside.locks.settings slots c.self.inside.calls (quotas_of (g.S.HostStore.rows c.self.inside.store)) c.self.inside.unsettled kept c.self.invariant)

pub returns-clause-world : goal.returns-clause-world
returns-clause-world g c =
    let names = c.self.inside.locks.names in
    let after = c.admit.new.self.names in
    let slots = c.self.inside.slots in
    let kept = kept_all names after c.admit.ensures.names slots.waiters c.self.invariant.in_use in
    rw (← c.self.view_is) (rw (c.admit.ensures.settings, waiters_kept names after slots.waiters kept) refl)
