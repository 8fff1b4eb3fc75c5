-- For which calls the store may be asked.
use Rattle.std.specs.Prelude.{Bool, true}
use Rattle.definitions.specs.Replay.{may_leave_row}
use Rattle.definitions.specs.Replies.{Call, Nlm, Nsm}

-- of the lock manager, those that store a row; the status monitor's own
abbrev pub may_ask : Call → Bool
may_ask (Nlm version call) = may_leave_row (Nlm version call)
may_ask (Nsm call) = true
