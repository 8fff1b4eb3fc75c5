use Rattle.callback_sender.proofs.HandingLemmas.{HandsOn-none}
use Rattle.callback_sender.proofs.run.Sender.send_if.Goals as goal

pub returns-else-is_room : goal.returns-else-is_room
returns-else-is_room g c = HandsOn-none _ _
