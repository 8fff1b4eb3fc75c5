use Rattle.workers.proofs.law.holds_are_sound.Goals as goal

pub returns : goal.returns
returns g c =
    let served = c.history.ensures in
    c.histories_are_sound.ensures served.name served.rules served.hosts _ served.history
