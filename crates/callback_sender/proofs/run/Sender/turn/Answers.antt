use Rattle.callback_sender.proofs.HandingLemmas.{HandsOn-kept, HandsOn-more}
use Rattle.callback_sender.proofs.run.Sender.turn.Goals as goal

pub returns : goal.returns
returns g c =
    HandsOn-more _ _ _ _ _ _ (HandsOn-more _ _ _ _ _ _ (HandsOn-kept _ _ _ c.tell_all-is_room.ensures) c.send_if-due.ensures) (HandsOn-kept _ _ _ c.exchange.ensures)
