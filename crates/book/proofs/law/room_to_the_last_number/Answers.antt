use Rattle.book.proofs.Rooms.{room_law}
use Rattle.book.proofs.law.room_to_the_last_number.Goals as goal

pub returns : goal.returns
returns c = room_law
