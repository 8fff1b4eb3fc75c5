use Rattle.std.proofs.Common.{refl}
use Rattle.definitions.specs.Hosts.{Watched}
use Rattle.lock_state.proofs.Stored.{whole_stored}
use Rattle.lock_state.proofs.world.World.watch.Goals as goal

pub invariant_of-self : goal.invariant_of-self
invariant_of-self g c =
    whole_stored c.watch.result (g.S.HostStore.rows c.self.inside.store) (g.S.HostStore.rows c.watch.new.self) (Watched c.args.mon_name.now c.args.my_id.now c.args.private_bytes.now) c.self.inside.locks.settings c.self.inside.locks.names c.self.inside.slots c.self.inside.calls c.self.inside.unsettled refl c.watch.ensures.makes c.self.invariant
