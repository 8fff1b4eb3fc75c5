use Rattle.std.proofs.Common.{refl, sym}
use Rattle.book.specs.Notes.{BeginsAnew}
use Rattle.daemon_core.specs.Outputs.{outputs_of}
use Rattle.daemon_core.proofs.DaemonLemmas.{links_after-kept, Happens-noted}
use Rattle.daemon_core.proofs.daemon.Daemon.restart.Goals as goal

pub returns-in-Yes : goal.returns-in-Yes
returns-in-Yes g c =
    let note = c.note-outcome in
    let out = c.tell-outputs in
    rw (← c.self.view_is)
    (Happens-noted out.result note.result.0 note.result.1 out.ensures.outcome out.ensures.store note.ensures.outcome BeginsAnew _ _ note.ensures.unasked note.ensures.unchanged refl outputs_of _ _ _ _ _ _ note.ensures.step note.ensures.counts note.ensures.fed note.ensures.room (rw (c.in-Yes.is, c.clear.ensures.items) refl) out.ensures.told)

pub returns-in_default : goal.returns-in_default
returns-in_default g c =
    let note = c.note-outcome in
    let out = c.tell-outputs in
    rw (← c.self.view_is)
    (Happens-noted out.result note.result.0 note.result.1 out.ensures.outcome out.ensures.store note.ensures.outcome BeginsAnew _ _ note.ensures.unasked note.ensures.unchanged refl outputs_of _ _ _ _ _ _ note.ensures.step note.ensures.counts note.ensures.fed note.ensures.room (sym (links_after-kept out.result.store _ c.in_default.not-Yes)) out.ensures.told)
