use Rattle.std.proofs.Common.{◌<◌, refl}
use Rattle.book.specs.Journal.{room_of}
use Rattle.daemon_core.proofs.RoomLemmas.{enters-room, noted_as-room}
use Rattle.daemon_core.proofs.noted.note.Goals as goal

pub returns-in_default-clause-step : goal.returns-in_default-clause-step
returns-in_default-clause-step g c = rw c.make_room.ensures.end (c.starved.ensures.stays c.args.book.now.journal.end)

pub returns-in_default-clause-counts : goal.returns-in_default-clause-counts
returns-in_default-clause-counts g c = rw (c.make_room.ensures.refusals, c.starved.ensures.unasked) refl

pub returns-clause-room : goal.returns-clause-room
returns-clause-room g c =
    let some : 0 < room_of c.make_room.new.book.journal = c.in-Ok.ensures.room in
    rw c.from.ensures (noted_as-room _ _ _ (enters-room c.args.book.now c.make_room.new.book _ _ _ c.make_room.ensures.begins some c.apply-step_result.ensures.enters))
