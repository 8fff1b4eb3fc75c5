-- Where there is room.
use Rattle.std.proofs.Common.{arith}
use Rattle.std.proofs.lemmas.Grind.{common_steps}
use Rattle.book.specs.Journal.{RoomLaw}

pub room_law : RoomLaw
room_law j few left = grind (arith, common_steps, few, left)
