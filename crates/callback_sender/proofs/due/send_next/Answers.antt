use Rattle.callback_sender.proofs.CallLemmas.{Hands-kept}
use Rattle.callback_sender.proofs.due.send_next.Goals as goal

pub returns-in-NothingDue : goal.returns-in-NothingDue
returns-in-NothingDue g c = Hands-kept _ _ _ _ c.in-NothingDue.ensures.2

pub returns-in-NoRoom : goal.returns-in-NoRoom
returns-in-NoRoom g c = Hands-kept _ _ _ _ c.in-NoRoom.ensures.3
