use Rattle.book.proofs.Histories.{histories_are_sound}
use Rattle.book.proofs.law.histories_are_sound.Goals as goal

pub returns : goal.returns
returns c = histories_are_sound
