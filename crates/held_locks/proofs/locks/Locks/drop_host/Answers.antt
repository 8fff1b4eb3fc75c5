use Rattle.held_locks.proofs.Ties.{tied_without_host}
use Rattle.held_locks.proofs.HostCounts.{hosts_without}
use Rattle.held_locks.proofs.locks.Locks.drop_host.Goals as goal

pub invariant_of-self : goal.invariant_of-self
invariant_of-self g c =
    rw c.after-self-inside.ensures
    (record {
      tied =
          tied_without_host (g.R.RangeTable.settings c.self.inside.table) (g.R.RangeTable.settings c.drop_host.new.self) c.self.inside.counts.items c.clear_host.new.counts.items c.self.inside.owners c.release_host.new.owners c.self.inside.settings.items c.args.name.now
          c.self.invariant.tied c.drop_host.ensures c.clear_host.ensures.counts c.clear_host.ensures.places c.release_host.ensures;
      by_host = hosts_without c.args.name.now c.self.inside.settings.items c.self.inside.hosts c.put.new.self c.self.invariant.by_host c.put.ensures;
    })
