use Rattle.std.proofs.Common.{subst, is_some}
use Rattle.workers.specs.Holds.{IsServed}
use Rattle.workers.proofs.Holding.{served}
use Rattle.workers.proofs.shared.Shared.history.Goals as goal

pub returns : goal.returns
returns g c =
    let i = c.self.inside in
    subst IsServed c.self.view_is (served c.segments_are_one_history.ensures i.total.total (record { closed = i.archive.all.items; book = i.book; keeps = is_some i.archive.kept }) c.self.invariant.0)
