use Rattle.std.proofs.Common.{refl, []}
use Rattle.book.specs.Notes.{BeginsAnew}
use Rattle.entry_counts.proofs.Adding.{nothing_counted}
use Rattle.entry_counts.proofs.counting.counts_of_restart.Goals as goal

pub returns : goal.returns
returns c number given = c.count_event.ensures BeginsAnew given refl refl [] number (nothing_counted _ c.new-counts.ensures.calls c.new-counts.ensures.events)
