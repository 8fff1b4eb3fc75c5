use Rattle.std.proofs.Common.{length, refl, ap, arith}
use Rattle.lock_state.proofs.Sendings.{IsWhole-fewer, no_more_silent}
use Rattle.lock_state.proofs.world.World.silent.Goals as goal

pub overflow_sub-before : goal.overflow_sub-before
overflow_sub-before g c = omega (arith, ap length c.silent.ensures, no_more_silent c.args.number c.self.inside.calls, c.len.ensures.len, c.len-before.ensures.len)

pub invariant_of-self : goal.invariant_of-self
invariant_of-self g c = IsWhole-fewer c.self.invariant (no_more_silent c.args.number c.self.inside.calls) c.silent.ensures c.len-before.ensures.len c.len.ensures.len c.give.ensures

pub returns : goal.returns
returns g c = rw (← c.self.view_is) (rw (c.give.ensures, c.silent.ensures) refl)
