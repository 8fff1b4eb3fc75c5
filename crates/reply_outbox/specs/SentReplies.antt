-- Records that were handed over.
use Rattle.std.specs.Prelude.{List, map}
use Rattle.reply_outbox.specs.declared.SentReply.{SentReply}
use Rattle.reply_outbox.specs.Posted.{Sent}

abbrev pub view_of_sent : List SentReply → List Sent
view_of_sent replies = map (λ (s : SentReply). record { connection = s.connection; reply = s.«record» }) replies
