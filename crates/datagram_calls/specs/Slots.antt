-- The newest of the replies that were handed over.
use Rattle.std.specs.Prelude.{List, [], ◌∷◌, Option, Some, None}
use Rattle.definitions.specs.Bytes.{Bytes}
use Rattle.reply_outbox.specs.Posted.{Sent}

abbrev pub newest : List Sent → Option Bytes
newest [] = None
newest (s ∷ sent) = elim (newest sent) [ None ↦ Some s.reply | Some reply ↦ Some reply ]
