-- The same over each state that a hold of a server's book sees.
use Rattle.std.specs.Prelude.{◌≡◌, ℕ, true, List, Some}
use Rattle.definitions.specs.Bytes.{Bytes}
use Rattle.definitions.specs.Settings.{Setting}
use Rattle.definitions.specs.Nlm.{Version, NlmCall, LockArgs}
use Rattle.definitions.specs.Hosts.{has_row}
use Rattle.definitions.specs.Reclaims.{AreCompatible}
use Rattle.definitions.specs.Replies.{Nlm, Asks}
use Rattle.definitions.specs.Step.{Peer, Take, Applied}
use Rattle.book.specs.Given.{StepResult}
use Rattle.book.specs.Notes.{JournalEvent}
use Rattle.workers.specs.Holds.{Held, Notes, history_of}
use Rattle.workers.specs.Laws.{state_of}
use Rattle.restart_laws.specs.Honest.{IsHonestReclaim, IsGranted}
use Rattle.restart_laws.specs.Histories.{IsHonestSince}

-- a row that is there stays
abbrev pub HoldsKeepRows : Type 0
HoldsKeepRows =
    (old new : Held) (event : JournalEvent) (step_result : StepResult) → Notes old event step_result new → (name : Bytes)
    → has_row (state_of old).world.hosts name ≡ true → has_row (state_of new).world.hosts name ≡ true

-- whatever came since the restart, in whatever order and number, an honest reclaim is granted
abbrev pub HoldsGrantHonestReclaims : Type 0
HoldsGrantHonestReclaims =
    (list : List Setting) → AreCompatible list → (old new : Held) (event : JournalEvent) (step_result : StepResult) (hold : Notes old event step_result new)
    → IsHonestSince list (history_of old)
    → (peer : Peer) (asked : Bytes) (xid : ℕ) (version : Version) (call : NlmCall) (a : LockArgs)
    → hold.enters.steps.said ≡ Take peer asked (Asks xid (Nlm version call)) → step_result.completion ≡ Applied
    → IsHonestReclaim list (state_of old) peer asked call a step_result.store → IsGranted version call a xid (state_of old) step_result.given (state_of new)
