-- The newest of what was handed over.
use Rattle.std.proofs.Common.{◌≡◌, refl, ap, List, [], ◌∷◌, ◌++◌, Option, Some, None}
use Rattle.definitions.specs.Bytes.{Bytes}
use Rattle.reply_outbox.specs.declared.SentReply.{SentReply}
use Rattle.reply_outbox.specs.SentReplies.{view_of_sent}
use Rattle.datagram_calls.specs.Slots.{newest}

pub newest_more : (all : List SentReply) (s : SentReply) → newest (view_of_sent (all ++ s ∷ [])) ≡ Some s.«record»
newest_more [] s = refl
newest_more (t ∷ all) s = ap (λ (o : Option Bytes). elim o [ None ↦ Some t.«record» | Some reply ↦ Some reply ]) (newest_more all s)
