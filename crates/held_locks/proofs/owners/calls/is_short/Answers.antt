use Rattle.std.proofs.Common.{◌+◌, ltb, ap, ◌∙◌}
use Rattle.held_locks.proofs.OwnerCounting.{two_less}
use Rattle.held_locks.proofs.owners.calls.is_short.Goals as goal

pub returns : goal.returns
returns g c = λ settings h. two_less c.used.result ∙ ap (λ n. ltb 65536 (n + 2)) (c.used.ensures settings h)
