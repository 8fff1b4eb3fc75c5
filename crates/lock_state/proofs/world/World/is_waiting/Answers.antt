use Rattle.std.proofs.Common.{◌≡◌, ◌≢◌, ℕ, Some, sym, subst}
use Rattle.std.proofs.lemmas.Option.{none-some}
use Rattle.owner_ids.specs.Names.{names_of_owners}
use Rattle.owner_ids.specs.Views.{view_of_owner}
use Rattle.held_locks.specs.Asked.{view_of_request}
use Rattle.lock_state.proofs.Strangers.{stranger_waits}
use Rattle.lock_state.proofs.world.World.is_waiting.Goals as goal

pub returns-in-None : goal.returns-in-None
returns-in-None g c =
    let names = c.self.inside.locks.names in
    let x = view_of_owner c.args.wanted.now.owner.now in
    let nobody : (n : ℕ) → names_of_owners names n ≢ Some x = λ n e. none-some n (c.in-None.ensures.known n (subst (λ ns. names_of_owners ns n ≡ Some x) (sym c.parts.ensures.names) e)) in
    rw (← c.self.view_is) (sym (stranger_waits names (view_of_request c.args.wanted.now) nobody c.self.inside.slots.waiters c.self.invariant.in_use))
