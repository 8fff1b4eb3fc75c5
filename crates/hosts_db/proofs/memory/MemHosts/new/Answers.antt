use Rattle.definitions.specs.Hosts.{row_cmp, watch_cmp}
use Rattle.hosts_db.proofs.Filling.{put_all_none}
use Rattle.hosts_db.proofs.memory.MemHosts.new.Goals as goal

pub returns-clause-rows : goal.returns-clause-rows
returns-clause-rows c =
    rw (c.put_watches.ensures, c.put_hosts.ensures, c.set_own.ensures, c.in-Ok.ensures)
    (λ i. record { own = c.args.own; rows = put_all_none row_cmp c.args.hosts.items i; watches = put_all_none watch_cmp c.args.watches.items i })
