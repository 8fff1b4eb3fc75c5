use Rattle.workers.proofs.law.holds_tell_of_no_grant.Goals as goal

pub returns : goal.returns
returns g c =
    let served = c.history.ensures in
    c.histories_tell_of_no_grant.ensures served.name served.rules served.hosts _ served.history
