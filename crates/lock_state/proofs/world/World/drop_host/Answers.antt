use Rattle.std.proofs.Common.{◌≡◌, length, refl, ap, subst, arith}
use Rattle.definitions.proofs.Lists.{length_without}
use Rattle.definitions.specs.Quotas.{quotas_of}
use Rattle.definitions.specs.Outgoing.{is_grant_to}
use Rattle.definitions.specs.Waits.{without_host_waiters}
use Rattle.owner_ids.specs.Names.{names_of_owners}
use Rattle.blocked_list.specs.Waiting.{AreNamed, waiters_by}
use Rattle.lock_state.proofs.Kept.{whole_dropped, waiters_left}
use Rattle.lock_state.proofs.world.World.drop_host.Goals as goal

pub overflow_sub-before : goal.overflow_sub-before
overflow_sub-before g c =
    let fewer = length_without (is_grant_to c.args.name.now) c.self.inside.calls in
    omega (arith, ap length c.drop_host-4.ensures, fewer, c.len.ensures.len, c.len-before.ensures.len)

pub invariant_of-self : goal.invariant_of-self
invariant_of-self g c =
    let names = c.self.inside.locks.names in
    let name = c.args.name.now in
    let slots = c.self.inside.slots in
    let left = c.drop_host.new.self.waiters in
    let by = subst (λ ns. AreNamed (names_of_owners ns) slots.waiters → waiters_by (names_of_owners ns) left ≡ without_host_waiters name (waiters_by (names_of_owners ns) slots.waiters)) c.parts.ensures.names c.drop_host.ensures.by c.self.invariant.in_use in
    let fewer = length_without (is_grant_to name) c.self.inside.calls in
    let counted : c.give.new.self.calls ≡ length c.drop_host-4.new.self = rw c.give.ensures (omega (arith, ap length c.drop_host-4.ensures, fewer, c.len.ensures.len, c.len-before.ensures.len, c.drop_host.ensures.calls, c.self.invariant.counted)) in
    rw c.drop_host-2.ensures.settings
    (whole_dropped names c.drop_host-2.new.self.names name c.self.inside.locks.settings slots c.give.new.self c.self.inside.calls c.drop_host-4.new.self (quotas_of (g.S.HostStore.rows c.self.inside.store)) c.self.inside.unsettled c.self.invariant (rw c.give.ensures by) (rw c.give.ensures (c.drop_host.ensures.named (names_of_owners names) c.self.invariant.in_use)) c.drop_host-2.ensures.names counted)

pub returns-clause-world : goal.returns-clause-world
returns-clause-world g c =
    let names = c.self.inside.locks.names in
    let name = c.args.name.now in
    let slots = c.self.inside.slots in
    let left = c.drop_host.new.self.waiters in
    let by = subst (λ ns. AreNamed (names_of_owners ns) slots.waiters → waiters_by (names_of_owners ns) left ≡ without_host_waiters name (waiters_by (names_of_owners ns) slots.waiters)) c.parts.ensures.names c.drop_host.ensures.by c.self.invariant.in_use in
    let waiters = waiters_left names c.drop_host-2.new.self.names name c.self.inside.locks.settings slots c.drop_host.new.self c.self.inside.calls c.drop_host-4.new.self (quotas_of (g.S.HostStore.rows c.self.inside.store)) c.self.inside.unsettled c.self.invariant by (c.drop_host.ensures.named (names_of_owners names) c.self.invariant.in_use) c.drop_host-2.ensures.names in
    rw (← c.self.view_is) (rw (c.give.ensures, c.drop_host-2.ensures.settings, waiters, c.drop_host-3.ensures, c.drop_host-4.ensures) refl)

pub returns-clause-forgotten : goal.returns-clause-forgotten
returns-clause-forgotten g c = λ x e known. c.drop_host-2.ensures.forgotten x e known.0 known.1
