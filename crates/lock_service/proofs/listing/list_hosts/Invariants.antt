use Rattle.lock_service.proofs.listing.list_hosts.Given as goal

abbrev pub ghost-after : goal.ghost-after
ghost-after g a = (g.S.HostStore.rows a.by.now).rows
