use Rattle.std.proofs.Common.{refl}
use Rattle.book.specs.Notes.{AsksLine}
use Rattle.daemon_core.specs.Outputs.{told_line}
use Rattle.daemon_core.proofs.DaemonLemmas.{Happens-noted}
use Rattle.daemon_core.proofs.daemon.Daemon.local.Goals as goal

pub returns : goal.returns
returns g c =
    let note = c.note-outcome in
    let told = c.tell_line in
    rw (← c.self.view_is)
    (Happens-noted told.result note.result.0 note.result.1 told.ensures.outcome told.ensures.store note.ensures.outcome (AsksLine c.args.connection c.args.line.items) _ _ note.ensures.unasked note.ensures.unchanged refl (told_line c.args.connection) _ _ _ _ _ _ note.ensures.step note.ensures.counts note.ensures.fed note.ensures.room refl told.ensures.told)
