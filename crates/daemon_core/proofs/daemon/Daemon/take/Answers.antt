use Rattle.std.proofs.Common.{◌≡◌, true, Some, refl, sym, ◌∙◌}
use Rattle.kept_replies.specs.Pairs.{view_of_peer}
use Rattle.book.specs.Notes.{Takes}
use Rattle.daemon_core.specs.Outputs.{told_to}
use Rattle.daemon_core.specs.Rooms.{room_of_journal}
use Rattle.daemon_core.specs.DaemonState.{DaemonState, place_of}
use Rattle.daemon_core.proofs.DaemonLemmas.{place_of-below, get-there, TakesAt-none, TakesAt-some, step_result_of-told, room-told, unnoted}
use Rattle.daemon_core.proofs.daemon.Daemon.take.Goals as goal

pub returns-in_default-take : goal.returns-in_default-take
returns-in_default-take g c =
    let old : DaemonState = record { state = c.self.inside.book.journal.end; refusals = c.self.inside.book.refusals; room = room_of_journal c.self.inside.book.journal; links = c.self.inside.connections.items } in
    let place : place_of c.args.number c.self.inside.connections.items ≡ Some c.in-Some.place = rw (← c.deref.ensures.value) (sym c.find.ensures ∙ c.in-Some.is) in
    let there = get-there c.self.inside.connections.items c.in-Some.place _ (place_of-below _ _ _ place) c.index_mut-connection.ensures.value in
    rw (← c.self.view_is) (rw place (TakesAt-none old _ c.in-Some.place c.args.index _ _ there c.in_default-take.ensures.none c.make_quiet-in_default-take.ensures))

pub returns : goal.returns
returns g c =
    let old : DaemonState = record { state = c.self.inside.book.journal.end; refusals = c.self.inside.book.refusals; room = room_of_journal c.self.inside.book.journal; links = c.self.inside.connections.items } in
    let place : place_of c.args.number c.self.inside.connections.items ≡ Some c.in-Some.place = rw (← c.deref.ensures.value) (sym c.find.ensures ∙ c.in-Some.is) in
    let there = get-there c.self.inside.connections.items c.in-Some.place _ (place_of-below _ _ _ place) c.index_mut-connection.ensures.value in
    let link = c.index_mut-connection.result.now in
    let note = c.note-outcome in
    let told = c.tell_to in
    let same = step_result_of-told told.result note.result.0 note.result.1 told.ensures.outcome told.ensures.store note.ensures.outcome in
    let step = rw c.peer-peer.ensures at note.ensures.step in
    let alone = unnoted told.result note.result.0 note.result.1 told.ensures.outcome told.ensures.store note.ensures.outcome (Takes (view_of_peer link.peer) c.in-Some-take.record) old.state note.new.book.journal.end note.ensures.unasked note.ensures.unchanged refl in
    let after = room_of_journal note.new.book.journal in
    let takes = room-told told.result note.result.0 note.result.1 told.ensures.outcome told.ensures.store note.ensures.outcome true old.room after note.ensures.room in
    let outputs : told.result ≡ told_to link.number told.result.outcome told.result.store note.result.1.given = rw (← c.number-number.ensures) told.ensures.told in
    rw (← c.self.view_is)
    (rw place
    (TakesAt-some old note.new.book.journal.end note.new.book.refusals after told.result c.in-Some.place c.args.index link c.take.new.self c.in-Some-take.record note.result.1.given there c.in-Some-take.ensures.some (rw same step) (rw told.ensures.store note.ensures.counts) alone takes outputs))
