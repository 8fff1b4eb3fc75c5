-- What an outbox is handed.
use Rattle.std.specs.Prelude.{ℕ, List, [], ◌∷◌}
use Rattle.definitions.specs.Bytes.{Bytes}
use Rattle.definitions.specs.Step.{Given, Nothing, Replies, Says, Sends, IsStarved, IsRefused}
use Rattle.call_codec.specs.Replies.{reply_bytes}

-- a record that was handed over, and the connection that it is for
pub record Sent : Type 0 where
  pub connection : ℕ
  pub reply : Bytes

-- the record of a reply; nothing where there is none
abbrev pub sent_of_reply : ℕ → Given → List Sent
sent_of_reply connection (Replies xid outcome) = record { connection = connection; reply = reply_bytes xid outcome } ∷ []
sent_of_reply connection Nothing = []
sent_of_reply connection (Says line) = []
sent_of_reply connection (Sends number callback) = []
sent_of_reply connection IsStarved = []
sent_of_reply connection IsRefused = []
