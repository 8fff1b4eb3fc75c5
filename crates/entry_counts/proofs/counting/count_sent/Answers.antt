use Rattle.std.proofs.Common.{refl}
use Rattle.definitions.specs.Hosts.{NotAsked}
use Rattle.definitions.specs.Step.{Applied}
use Rattle.book.specs.Given.{comes_to}
use Rattle.book.specs.Notes.{SendsNext}
use Rattle.entry_counts.proofs.Adding.{event_counted}
use Rattle.entry_counts.proofs.counting.count_sent.Goals as goal

pub returns-then-is_sent : goal.returns-then-is_sent
returns-then-is_sent c =
    rw c.if-is_sent.true (λ given. event_counted _ _ SendsNext (comes_to Applied NotAsked given) _ _ _ refl refl refl refl c.add_event.ensures.calls c.add_event.ensures.events)
