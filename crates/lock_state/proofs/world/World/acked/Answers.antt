use Rattle.std.proofs.Common.{refl}
use Rattle.definitions.specs.Hosts.{Acked}
use Rattle.lock_state.proofs.Stored.{whole_stored}
use Rattle.lock_state.proofs.world.World.acked.Goals as goal

pub invariant_of-self : goal.invariant_of-self
invariant_of-self g c =
    whole_stored c.acked.result (g.S.HostStore.rows c.self.inside.store) (g.S.HostStore.rows c.acked.new.self) (Acked c.in-Some.name.now c.own-own.result) c.self.inside.locks.settings c.self.inside.locks.names c.self.inside.slots c.self.inside.calls c.self.inside.unsettled refl c.acked.ensures.makes c.self.invariant
