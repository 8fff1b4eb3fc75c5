use Rattle.std.proofs.Common.{◌≡◌, ℕ, Bool, true, false, Some, refl, sym, ◌∙◌, subst}
use Rattle.owner_ids.specs.Views.{view_of_owner}
use Rattle.owner_ids.specs.Names.{names_of_owners, AreDistinct}
use Rattle.definitions.specs.Bytes.{is_any}
use Rattle.definitions.specs.Owners.{same_owner}
use Rattle.definitions.specs.Waits.{Waiter}
use Rattle.blocked_list.specs.Waiting.{waiters_by}
use Rattle.definitions.specs.Quotas.{quotas_of}
use Rattle.lock_state.specs.Seen.{IsIdle}
use Rattle.lock_state.proofs.Kept.{KeepsWaiters, kept_others, waiters_kept, whole_kept, waits_by}
use Rattle.lock_state.proofs.world.World.forget_idle.Given.{Over}
use Rattle.lock_state.proofs.world.World.forget_idle.Goals as goal

kept : (g : Over) (c : goal.After-forget_idle g) → KeepsWaiters c.self.inside.locks.names c.forget_idle.new.self.names c.self.inside.slots.waiters
kept g c =
    let n = c.in-Some.number in
    let x = view_of_owner c.args.owner.now in
    let distinct = subst (λ ns. AreDistinct (names_of_owners ns)) c.parts.ensures.names c.parts.ensures.stands.distinct in
    let found = subst (λ ns. names_of_owners ns n ≡ Some x) c.parts.ensures.names c.in-Some.ensures.found in
    let nobody = sym c.has_owner.ensures ∙ c.if-not-has_owner.true in
    kept_others c.self.inside.locks.names c.forget_idle.new.self.names n x distinct found c.forget_idle.ensures.names c.self.inside.slots.waiters c.self.invariant.in_use nobody

pub invariant_of-self : goal.invariant_of-self
invariant_of-self g c =
    rw c.forget_idle.ensures.settings
    (whole_kept c.self.inside.locks.names c.forget_idle.new.self.names c.self.inside.locks.settings c.self.inside.slots c.self.inside.calls (quotas_of (g.S.HostStore.rows c.self.inside.store)) c.self.inside.unsettled (kept g c) c.self.invariant)

pub returns-in-Some-clause-world : goal.returns-in-Some-clause-world
returns-in-Some-clause-world g c =
    let waiters = waiters_kept c.self.inside.locks.names c.forget_idle.new.self.names c.self.inside.slots.waiters (kept g c) in
    rw (← c.self.view_is) (rw (c.forget_idle.ensures.settings, waiters) refl)

pub returns-in-Some-clause-others : goal.returns-in-Some-clause-others
returns-in-Some-clause-others g c = λ x other known. c.forget_idle.ensures.others x other (subst (λ s. (n : ℕ) × (names_of_owners s.names n ≡ Some x)) (sym c.self.view_is) known)

pub returns-in-Some-clause-forgotten : goal.returns-in-Some-clause-forgotten
returns-in-Some-clause-forgotten g c = λ idle known.
    let x = view_of_owner c.args.owner.now in
    let here = subst (λ s. IsIdle s.world x) (sym c.self.view_is) idle in
    c.forget_idle.ensures.forgotten here.holds_nothing known.0 known.1

true_false : {A : Type 0} (b : Bool) → b ≡ true → b ≡ false → A
true_false b e f = cc

pub returns-else-not-has_owner-clause-forgotten : goal.returns-else-not-has_owner-clause-forgotten
returns-else-not-has_owner-clause-forgotten g c = λ idle known.
    let x = view_of_owner c.args.owner.now in
    let names = c.self.inside.locks.names in
    let ws = c.self.inside.slots.waiters in
    let n = c.in-Some.number in
    let here = subst (λ s. IsIdle s.world x) (sym c.self.view_is) idle in
    let found = subst (λ ns. names_of_owners ns n ≡ Some x) c.parts.ensures.names c.in-Some.ensures.found in
    let waits = waits_by names n x found ws (sym c.has_owner.ensures ∙ c.if-not-has_owner.false) in
    true_false (is_any (λ (y : Waiter). same_owner y.request.owner x) (waiters_by (names_of_owners names) ws)) waits here.waits_not
