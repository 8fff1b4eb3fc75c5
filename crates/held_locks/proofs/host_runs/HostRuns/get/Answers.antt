use Rattle.std.proofs.Common.{ap, sym, ◌∙◌}
use Rattle.std.specs.Prelude.{unwrap_or}
use Rattle.held_locks.proofs.RunCounts.{counted}
use Rattle.held_locks.proofs.host_runs.HostRuns.get.Goals as goal

pub returns-in-Some : goal.returns-in-Some
returns-in-Some c = rw (← c.self.view_is) (ap (λ o. unwrap_or o 0) c.in-Some.ensures.value ∙ sym (counted c.self.inside.by_host c.args.host.now))

pub returns-in-None : goal.returns-in-None
returns-in-None c = rw (← c.self.view_is) (ap (λ o. unwrap_or o 0) c.in-None.ensures.value ∙ sym (counted c.self.inside.by_host c.args.host.now))
