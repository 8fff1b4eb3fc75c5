use Rattle.std.proofs.Common.{refl}
use Rattle.workers.proofs.Holding.{finished}
use Rattle.workers.proofs.shared.Shared.finish.Goals as goal

pub returns-clause-counted : goal.returns-clause-counted
returns-clause-counted g c =
    finished _ _ c.self.inside.archive.all.items _ c.close.result c.self.inside.book.journal c.in_ok-segments.segments (λ s. s.items)
    (c.audit.ensures.whole c.requires.whole) c.self.invariant.0 c.close.ensures.closed refl c.in_ok-segments.ensures.all
