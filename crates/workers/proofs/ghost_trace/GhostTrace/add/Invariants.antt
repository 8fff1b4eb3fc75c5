use Rattle.std.proofs.Common.{◌++◌}
use Rattle.std.specs.Option.{option_to_list}
use Rattle.book.specs.Receipts.{newest_note}
use Rattle.workers.proofs.ghost_trace.GhostTrace.add.Given as goal

abbrev pub ghost-after : goal.ghost-after
ghost-after g a = a.self.now ++ option_to_list (newest_note a.book.now.journal.notes)
