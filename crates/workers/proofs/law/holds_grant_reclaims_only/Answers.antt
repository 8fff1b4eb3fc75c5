use Rattle.workers.proofs.law.holds_grant_reclaims_only.Goals as goal

pub returns : goal.returns
returns g c =
    let served = c.history.ensures in
    c.histories_grant_reclaims_only.ensures served.name served.rules served.hosts _ served.history
