use Rattle.std.proofs.Common.{◌≡◌, ◌≢◌, ℕ, Some, refl, sym, subst}
use Rattle.definitions.specs.Quotas.{quotas_of}
use Rattle.std.proofs.lemmas.Option.{none-some}
use Rattle.owner_ids.specs.Names.{names_of_owners, AreDistinct}
use Rattle.owner_ids.specs.Views.{view_of_owner}
use Rattle.held_locks.specs.Asked.{view_of_request}
use Rattle.blocked_list.specs.Waiting.{AreKnown}
use Rattle.lock_state.proofs.Strangers.{stranger_waits}
use Rattle.lock_state.proofs.Waiting.{is_known, whole_cancelled}
use Rattle.lock_state.proofs.world.World.cancel.Goals as goal

pub invariant_of-self : goal.invariant_of-self
invariant_of-self g c =
    let names = c.self.inside.locks.names in
    let n = c.in-Some.number in
    let r = c.args.wanted.now in
    let distinct = subst (λ ns. AreDistinct (names_of_owners ns)) c.parts.ensures.names c.parts.ensures.stands.distinct in
    let known : AreKnown (names_of_owners names) c.self.inside.slots.waiters = record { distinct = distinct; named = c.self.invariant.in_use } in
    let found = subst (λ ns. names_of_owners ns n ≡ Some (view_of_owner r.owner.now)) c.parts.ensures.names c.in-Some.ensures.found in
    let one = is_known (names_of_owners names) n r c.by_number.result c.by_number.ensures found in
    whole_cancelled c.cancel.result names c.self.inside.locks.settings c.self.inside.slots c.cancel.new.self c.self.inside.calls (quotas_of (g.S.HostStore.rows c.self.inside.store)) c.self.inside.unsettled c.self.invariant c.by_number.result known one c.cancel.ensures.ok c.cancel.ensures.err
    (c.cancel.ensures.named (names_of_owners names) c.self.invariant.in_use) c.cancel.ensures.calls

pub returns-in-None-clause-refused : goal.returns-in-None-clause-refused
returns-in-None-clause-refused g c =
    let names = c.self.inside.locks.names in
    let x = view_of_owner c.args.wanted.now.owner.now in
    let nobody : (n : ℕ) → names_of_owners names n ≢ Some x = λ n e. none-some n (c.in-None.ensures.known n (subst (λ ns. names_of_owners ns n ≡ Some x) (sym c.parts.ensures.names) e)) in
    rw (← c.self.view_is) ((λ e. stranger_waits names (view_of_request c.args.wanted.now) nobody c.self.inside.slots.waiters c.self.invariant.in_use), λ e. refl)
