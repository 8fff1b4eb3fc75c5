use Rattle.hosts_db.specs.Writings.{view_of_writing}
use Rattle.hosts_db.proofs.Lasts.{call_outlives}
use Rattle.hosts_db.proofs.lasting.LastingHostStore.write.Goals as goal

pub invariant_of-self : goal.invariant_of-self
invariant_of-self g c =
    record { lasts = λ begun. call_outlives c.write.result (g.S.HostStore.may_leave c.args.self.now.store) (g.S.HostStore.may_leave c.write.new.self) (g.S.HostStore.rows c.args.self.now.store) (g.S.HostStore.rows c.write.new.self) (view_of_writing c.args.asked) c.write.ensures.makes c.write.ensures.crash (c.args.self.now.lasts begun) }
