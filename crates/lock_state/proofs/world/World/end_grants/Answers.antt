use Rattle.std.proofs.Common.{◌≤◌, List, length, refl, ap, arith}
use Rattle.definitions.proofs.Lists.{length_without}
use Rattle.definitions.specs.LockRules.{tells_of, without_grants_of}
use Rattle.definitions.specs.Outgoing.{Outgoing}
use Rattle.definitions.specs.Settings.{Request}
use Rattle.held_locks.specs.Asked.{view_of_request}
use Rattle.lock_state.proofs.Sendings.{IsWhole-fewer}
use Rattle.lock_state.proofs.world.World.end_grants.Goals as goal

no_more : (r : Request) (calls : List Outgoing) → length (without_grants_of r calls) ≤ length calls
no_more r calls = length_without (λ (c : Outgoing). tells_of r c.callback.message) calls

pub overflow_sub-before : goal.overflow_sub-before
overflow_sub-before g c = omega (arith, ap length c.end_grants.ensures, no_more (view_of_request c.args.wanted.now) c.self.inside.calls, c.len.ensures.len, c.len-before.ensures.len)

pub invariant_of-self : goal.invariant_of-self
invariant_of-self g c = IsWhole-fewer c.self.invariant (no_more (view_of_request c.args.wanted.now) c.self.inside.calls) c.end_grants.ensures c.len-before.ensures.len c.len.ensures.len c.give.ensures

pub returns : goal.returns
returns g c = rw (← c.self.view_is) (rw (c.give.ensures, c.end_grants.ensures) refl)
