use Rattle.restart_laws.proofs.rows.holds_monitor_hosts.Goals as goal

pub returns : goal.returns
returns g c =
    let served = c.history.ensures in
    c.histories_monitor_hosts.ensures served.name served.rules served.hosts _ served.history
