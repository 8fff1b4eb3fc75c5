-- What the sender hands over.
use Rattle.std.specs.Prelude.{ℕ, List}
use Rattle.book.specs.Notes.{Note}
use Rattle.callback_sender.specs.Calls.{Call, Hands}

-- what was handed over is what the trace's further entries sent, one to one and in order, and nothing else
abbrev pub HandsOn : List Call → List Call → List Note → List Note → Type 0
HandsOn old new told told' = (most : ℕ) × Hands most old new told told'
