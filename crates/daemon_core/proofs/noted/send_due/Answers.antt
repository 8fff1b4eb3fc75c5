use Rattle.std.proofs.Common.{◌≡◌, ◌<◌, true, refl}
use Rattle.definitions.specs.Step.{Sends}
use Rattle.book.specs.Notes.{SendsNext}
use Rattle.book.specs.Journal.{room_of}
use Rattle.daemon_core.specs.Outcomes.{needs_entry}
use Rattle.daemon_core.proofs.RoomLemmas.{enters-room, needed-room}
use Rattle.daemon_core.proofs.noted.send_due.Goals as goal

pub returns : goal.returns
returns g c = λ links.
    let sends = c.in-Some.ensures.sends in
    let due : needs_entry SendsNext c.args.book.now.journal.end ≡ true = cc in
    let some : 0 < room_of c.make_room.new.book.journal = c.in-Ok.ensures.room in
    rw c.fill.ensures (record {
      given = Sends c.in-Some.field-0-0 sends.0;
      step = rw (← c.make_room.ensures.end) sends.3.steps;
      refusals = rw (← c.make_room.ensures.refusals) sends.3.refusals;
      fed = λ met. cc;
      unnoted = λ met. absurd cc;
      room = needed-room _ _ _ due (enters-room c.args.book.now c.make_room.new.book _ _ _ c.make_room.ensures.begins some sends.3);
      links = refl;
      outputs = rw (sends.1, sends.2) refl;
    })
