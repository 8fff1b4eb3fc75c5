use Rattle.std.proofs.Common.{subst}
use Rattle.entry_counts.specs.Counted.{AreCountsOf}
use Rattle.workers.specs.Holds.{history_of}
use Rattle.workers.proofs.shared.Shared.counts.Goals as goal

pub returns : goal.returns
returns g c = subst (λ held. AreCountsOf (history_of held).notes c.self.inside.counts) c.self.view_is c.self.invariant.1
