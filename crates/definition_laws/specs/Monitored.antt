-- A lock that LOCK or LOCK_MSG made, or that waits for them, is of a host with a row; where the store refuses the row, nothing is done.
use Rattle.std.specs.Prelude.{◌≡◌, Bool, true, false, Some}
use Rattle.definitions.specs.Nlm.{Version, Stat, GRANTED, BLOCKED, DENIED_NOLOCKS, LockArgs}
use Rattle.definitions.specs.Hosts.{StoreCall, StoreAnswer, has_row}
use Rattle.definitions.specs.World.{World, Limits}
use Rattle.definitions.specs.Rulings.{Response, Ruling, ruled_answer}
use Rattle.definitions.specs.Answer.{lock_answer, nm_lock_answer, lock_msg_answer}

-- granted, or waiting to be
abbrev pub stands : Stat → Bool
stands GRANTED = true
stands BLOCKED = true
stands _ = false

abbrev pub HasRow : LockArgs → Response Stat → Type 0
HasRow a t = stands t.says ≡ true → has_row t.world.hosts a.alock.caller_name ≡ true

-- whatever the store answered
abbrev pub MonitoredLaw : Type 0
MonitoredLaw =
    (limits : Limits) (w : World) (version : Version) (a : LockArgs) (store : StoreAnswer)
    → HasRow a (ruled_answer store (lock_answer limits w version a)) × HasRow a (ruled_answer store (lock_msg_answer limits w version a))

-- where a row is asked for and the store refuses it, the lock is answered DENIED_NOLOCKS and nothing has changed
abbrev pub IsGivenUp : World → Ruling (Response Stat) → Type 0
IsGivenUp w r = (call : StoreCall) → r.asks ≡ Some call → r.refused ≡ record { says = DENIED_NOLOCKS; world = w }

abbrev pub RefusedRowLaw : Type 0
RefusedRowLaw =
    (limits : Limits) (w : World) (version : Version) (a : LockArgs)
    → IsGivenUp w (lock_answer limits w version a) × IsGivenUp w (nm_lock_answer limits w version a)
    × IsGivenUp w (lock_msg_answer limits w version a)
