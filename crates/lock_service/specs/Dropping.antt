-- What SM_NOTIFY comes to where a host's state isn't the one that was seen.
use Rattle.std.specs.Prelude.{ℤ, length}
use Rattle.definitions.specs.Bytes.{Bytes}
use Rattle.definitions.specs.Hosts.{Seen, watches_of}
use Rattle.definitions.specs.Replies.{SystemErr}
use Rattle.definitions.specs.Rulings.{Ruling}
use Rattle.definitions.specs.World.{World, the_limits}
use Rattle.definitions.specs.Answer.{Answered, gives, if_slots, notified_answer, ruling_after_store}

-- once the store has the new state
abbrev pub dropping_ruling : World → Bytes → ℤ → Ruling Answered
dropping_ruling w name state = ruling_after_store w (Seen name state) (notified_answer name state) (gives w SystemErr)

-- there is a place for each who watches the host, or nothing changes
abbrev pub dropped_if_room : World → Bytes → ℤ → Ruling Answered
dropped_if_room w name state = if_slots (length (watches_of w.hosts name)) the_limits w (dropping_ruling w name state)
