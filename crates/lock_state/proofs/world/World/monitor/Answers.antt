use Rattle.std.proofs.Common.{refl}
use mir.Syntax.{w32}
use mir.Val.{to_z, of_z}
use Rattle.definitions.specs.Hosts.{Monitor}
use Rattle.lock_state.proofs.Stored.{whole_stored}
use Rattle.lock_state.proofs.world.World.monitor.Goals as goal

pub invariant_of-self : goal.invariant_of-self
invariant_of-self g c =
    whole_stored c.monitor.result (g.S.HostStore.rows c.self.inside.store) (g.S.HostStore.rows c.monitor.new.self) (Monitor c.args.name.now (to_z w32 (of_z w32 c.args.state))) c.self.inside.locks.settings c.self.inside.locks.names c.self.inside.slots c.self.inside.calls c.self.inside.unsettled refl c.monitor.ensures.makes c.self.invariant
